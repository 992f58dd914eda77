-- The entries of a commit by partition and file id.
use Rattle.std.specs.Prelude.{ℕ, List, Bool, ◌&&◌, map, filter}
use Rattle.std.specs.List.{flat_map}
use Rattle.std.specs.Ordering.{nat_cmp, eq_by_cmp}
use Rattle.std.specs.Cmp.Lexicographic.{slice_cmp}
use Rattle.std.specs.Str.{bytes_eq}
use Rattle.mx_ask.specs.declared.ask.FileRows.{FileRows}
use Rattle.mx_meta.specs.declared.commit_meta.PartitionStats.{PartitionStats}
use Rattle.mx_meta.specs.declared.commit_meta.WriteStat.{WriteStat}
use Rattle.mx_commit.specs.declared.written.Written.{Written}

-- the files are of one group, as a test
abbrev pub is_same_group : FileRows → FileRows → Bool
is_same_group x y = bytes_eq x.partition y.partition && bytes_eq x.file y.file

-- the entry stands under the partition
abbrev pub is_under : List ℕ → Written → Bool
is_under partition w = eq_by_cmp (slice_cmp nat_cmp) w.partition partition

-- the entry has the file id
abbrev pub has_id : List ℕ → Written → Bool
has_id id w = eq_by_cmp (slice_cmp nat_cmp) w.stat.file_id id

-- the entry is of the group
abbrev pub is_of_group : List ℕ → List ℕ → Written → Bool
is_of_group partition id w = bytes_eq w.partition partition && bytes_eq w.stat.file_id id

-- the entries of a group
abbrev pub group_stats : List Written → List ℕ → List ℕ → List WriteStat
group_stats written partition id = map (λ (w : Written). w.stat) (filter (is_of_group partition id) written)

-- the entries of a partition's groups, in the order of the ids
abbrev pub partition_stats : List Written → List (List ℕ) → List ℕ → PartitionStats
partition_stats written ids partition = record { partition = partition; stats = flat_map (group_stats written partition) ids }
