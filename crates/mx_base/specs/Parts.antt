-- The index partitions of the metadata table.
use Rattle.std.specs.Prelude.{ℕ, List, codes}
use Rattle.mx_base.specs.declared.part.Part.{Part}
use Rattle.mx_base.specs.declared.part.Part.TheVariants.{Files, ColumnStats, BloomFilters, RecordIndex}

-- the name of a partition, in the config and as a folder
abbrev pub part_name : Part → List ℕ
part_name Files = codes "files"
part_name ColumnStats = codes "column_stats"
part_name BloomFilters = codes "bloom_filters"
part_name RecordIndex = codes "record_index"

-- how many shards a partition has
abbrev pub shard_count : Part → ℕ
shard_count Files = 1
shard_count ColumnStats = 4
shard_count BloomFilters = 4
shard_count RecordIndex = 8

-- where a partition stands among all of them
abbrev pub part_place : Part → ℕ
part_place Files = 0
part_place ColumnStats = 1
part_place BloomFilters = 2
part_place RecordIndex = 3
