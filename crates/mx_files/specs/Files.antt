-- The files of a table by partitions, and what the index of files has to say of them, after the files partition of
-- Hudi's metadata table (RFC-15).
use Rattle.std.specs.Prelude.{ℕ, List, [], ◌∷◌, fold, codes, Option, Some, None, option_map, unwrap_or, bytes_eq, if◌then◌else◌}
use Rattle.std.specs.Ordering.{nat_cmp}
use Rattle.std.specs.Cmp.Lexicographic.{slice_cmp}
use Rattle.std.specs.FinMap as finmap
use Rattle.mx_base.specs.Paths.{data_file_name}
use Rattle.mx_base.specs.declared.entry.FileAt.{FileAt}
use Rattle.mx_payload.specs.declared.payload.Payload.{Payload}
use Rattle.mx_payload.specs.declared.payload.Payload.TheVariants.{Partitions, Files}
use Rattle.mx_merge.specs.Shown.{SizeMap, words_with}

-- from partitions to the names and sizes of their files
abbrev pub FilesMap : Type 0
FilesMap = finmap.FinMap (slice_cmp nat_cmp) SizeMap

-- the name of a file in its partition
abbrev pub name_of : FileAt → List ℕ
name_of file = data_file_name file.file file.at

-- the names and sizes of a partition, none where it is not a key
abbrev pub sizes_in : FilesMap → List ℕ → SizeMap
sizes_in files partition = unwrap_or (finmap.get files partition) finmap.empty

-- the map with one more file: a name that stands takes the new size
abbrev pub with_file : FilesMap → FileAt → FilesMap
with_file files file = finmap.insert files file.partition (finmap.insert (sizes_in files file.partition) (name_of file) file.size)

-- the map without a file; its partition stays
abbrev pub without_file : FilesMap → FileAt → FilesMap
without_file files file = finmap.insert files file.partition (finmap.remove (sizes_in files file.partition) (name_of file))

-- the map of a list of files
abbrev pub files_map : List FileAt → FilesMap
files_map files = fold with_file finmap.empty files

-- the key of the list of all partitions
abbrev pub all_partitions : List ℕ
all_partitions = codes "__all_partitions__"

-- a list of partitions, where there is one
abbrev pub named_partitions : List (List ℕ) → Option Payload
named_partitions [] = None
named_partitions (name ∷ names) = Some (Partitions (name ∷ names))

-- the partitions of a table
abbrev pub partition_list : FilesMap → Option Payload
partition_list files = named_partitions (finmap.keys files)

-- what a key is to show: the partitions, or the files of one of them
unfoldable pub expected_on : List ℕ → FilesMap → Option Payload
expected_on key files = if bytes_eq key all_partitions then partition_list files else option_map (λ (sizes : SizeMap). Files (words_with sizes)) (finmap.get files key)
