-- The JSON of a commit's object.
use Rattle.std.specs.Prelude.{◌≡◌, ℕ, ◌<◌, ◌^◌, List, [], ◌∷◌, Bool, true, codes, map, fold, All, IfSome, if◌then◌else◌, Option, Some, None, option_map, option_and_then}
use Rattle.std.specs.List.Sorted.{IsStrictlySortedBy}
use Rattle.std.specs.Str.{bytes_eq}
use Rattle.std.specs.Ordering.{nat_cmp}
use Rattle.std.specs.Cmp.Lexicographic.{slice_cmp}
use Rattle.serde_json.specs.Data.{Data, number, unsigned, string, array, object, Members, no_members, member, put}
use Rattle.serde_json.specs.Find.{as_str, as_array, as_object}
use Rattle.serde_json.specs.View.{items_of}
use Rattle.mx_base.specs.Digits.{instant_text}
use Rattle.mx_base.specs.Names.{is_file_id, IsFileId, is_partition, IsPartition, is_path, IsPath}
use Rattle.mx_base.specs.Paths.{instant_of}
use Rattle.mx_meta.specs.Json.{with_names, field_in, each_in, text_in, count_in, passing}
use Rattle.mx_meta.specs.Fields.{Field, field, with_fields, object_of}
use Rattle.mx_meta.specs.Rising.{is_rising, bytes_below}
use Rattle.mx_meta.specs.declared.commit_meta.WriteStat.{WriteStat}
use Rattle.mx_meta.specs.declared.commit_meta.PartitionStats.{PartitionStats}
use Rattle.mx_meta.specs.declared.commit_meta.CommitMeta.{CommitMeta}

-- an instant, or `null` where there is none
abbrev pub prev_text : Option ℕ → List ℕ
prev_text None = codes "null"
prev_text (Some at) = instant_text at

-- the value of a file's entry
unfoldable pub stat_data : WriteStat → Data
stat_data stat =
    object (member (codes "fileId") (string stat.file_id) (member (codes "fileSizeInBytes") (number (unsigned stat.file_size_in_bytes))
    (member (codes "numWrites") (number (unsigned stat.num_writes)) (member (codes "path") (string stat.path) (member (codes "prevCommit") (string (prev_text stat.prev_commit)) no_members)))))

-- the value of a partition's entries, in the order of its stats
abbrev pub stats_data : List WriteStat → Data
stats_data stats = array (items_of (map stat_data stats))

-- the partitions by name; of a partition that stands twice the last stats count
abbrev pub partitions_data : List PartitionStats → Members
partitions_data partitions = fold (λ members p. put p.partition (stats_data p.stats) members) no_members partitions

-- the value of a commit's object
unfoldable pub commit_meta_data : CommitMeta → Data
commit_meta_data meta = object (member (codes "partitionToWriteStats") (object (partitions_data meta.partitions)) no_members)

-- ---- read

-- an instant, or none where the text is `null`
unfoldable pub prev_in : Data → Option (Option ℕ)
prev_in d = option_and_then (λ text. if bytes_eq text (codes "null") then Some None else option_map (λ at. Some at) (instant_of text)) (as_str d)

-- a file's entry has exactly these five fields
unfoldable pub stat_in : Data → Option WriteStat
stat_in d =
    option_and_then (λ d. option_and_then (λ id. option_and_then (λ size. option_and_then (λ writes. option_and_then (λ path.
    option_map (λ prev. record { file_id = id; file_size_in_bytes = size; num_writes = writes; path = path; prev_commit = prev })
    (field_in prev_in (codes "prevCommit") d))
    (field_in (text_in is_path) (codes "path") d))
    (field_in count_in (codes "numWrites") d))
    (field_in count_in (codes "fileSizeInBytes") d))
    (field_in (text_in is_file_id) (codes "fileId") d))
    (with_names (codes "fileId" ∷ codes "fileSizeInBytes" ∷ codes "numWrites" ∷ codes "path" ∷ codes "prevCommit" ∷ []) d)

-- entries stand in the order of their file ids
abbrev pub stat_below : WriteStat → WriteStat → Bool
stat_below x y = bytes_below x.file_id y.file_id

unfoldable pub stats_in : Data → Option (List WriteStat)
stats_in d = passing (is_rising stat_below) (option_and_then (each_in stat_in) (as_array d))

-- a partition's name, and its entries
abbrev pub partition_in : List ℕ → Data → Option PartitionStats
partition_in name d = if is_partition name then option_map (λ stats. record { partition = name; stats = stats }) (stats_in d) else None

abbrev pub partitions_in : Members → Option (List PartitionStats)
partitions_in no_members = Some []
partitions_in (member name d members) = option_and_then (λ p. option_map (λ more. p ∷ more) (partitions_in members)) (partition_in name d)

-- an object of partitions by name
unfoldable pub by_partition_in : Data → Option (List PartitionStats)
by_partition_in d = option_and_then partitions_in (as_object d)

abbrev pub commit_meta_fields : Data → List Field
commit_meta_fields d = field (codes "partitionToWriteStats") by_partition_in d ∷ []

unfoldable pub commit_meta_in : Data → Option CommitMeta
commit_meta_in d =
    option_and_then (λ d. option_map (λ partitions. record { partitions = partitions }) (field_in by_partition_in (codes "partitionToWriteStats") d))
    (with_fields (commit_meta_fields d) d)

-- the commit's object that bytes spell as JSON
unfoldable pub commit_meta_of : List ℕ → Option CommitMeta
commit_meta_of bytes = option_and_then commit_meta_in (object_of bytes)

-- ---- what is read back as it was written

-- the counts of a file are below 2^63
pub record HasSmallCounts (stat : WriteStat) : Type 0 where
  pub size : stat.file_size_in_bytes < 2 ^ 63
  pub writes : stat.num_writes < 2 ^ 63

-- the partitions rise in byte order and the entries of each by file id, none twice, and each count is below 2^63
pub record IsWellFormed (meta : CommitMeta) : Type 0 where
  pub rising : IsStrictlySortedBy (slice_cmp nat_cmp) (map (λ p. p.partition) meta.partitions)
  pub ordered : All (λ p. is_rising stat_below p.stats ≡ true) meta.partitions
  pub counts : All (λ p. All HasSmallCounts p.stats) meta.partitions

-- the names of a file's entry are names, as its types have it
pub record HasNames (stat : WriteStat) : Type 0 where
  pub file_id : IsFileId stat.file_id
  pub path : IsPath stat.path
  pub prev : IfSome stat.prev_commit (λ at. at < 10 ^ 17)

-- the names of a partition's entries are names
pub record HasNamesWithin (p : PartitionStats) : Type 0 where
  pub partition : IsPartition p.partition
  pub stats : All HasNames p.stats
