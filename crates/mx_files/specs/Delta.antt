-- What an action adds to the index of files: the files that a commit writes, or those that a clean takes out.
use Rattle.std.specs.Prelude.{◌≡◌, ◌≢◌, ℕ, true, false, List, [], ◌∷◌, ◌++◌, map, fold, All, Option, Some, None, option_map, IsSome, bytes_eq, if◌then◌else◌}
use Rattle.std.specs.Option.{option_to_list}
use Rattle.std.specs.Ordering.{nat_cmp}
use Rattle.std.specs.Cmp.Lexicographic.{slice_cmp}
use Rattle.std.specs.FinMap as finmap
use Rattle.mx_base.specs.declared.entry.Entry.{Entry}
use Rattle.mx_base.specs.declared.entry.FileAt.{FileAt}
use Rattle.mx_base.specs.declared.entry.ShardEntries.{ShardEntries}
use Rattle.mx_hfile.specs.Encoding.{AreEntries}
use Rattle.mx_payload.specs.declared.payload.NameWord.{NameWord}
use Rattle.mx_payload.specs.declared.payload.Payload.{Payload}
use Rattle.mx_payload.specs.declared.payload.Payload.TheVariants.{Files}
use Rattle.mx_payload.specs.Encoding.{encoding}
use Rattle.mx_merge.specs.Merged.{values_on_key, payloads_on_key}
use Rattle.mx_files.specs.Files.{FilesMap, name_of, with_file, without_file, files_map, all_partitions, partition_list}

-- what is said of each file of a partition: the size of a new one, none of one that is taken out
abbrev pub WordMap : Type 0
WordMap = finmap.FinMap (slice_cmp nat_cmp) (Option ℕ)

-- one more new file, which may be another partition's
abbrev pub with_new : List ℕ → WordMap → FileAt → WordMap
with_new partition words file = if bytes_eq file.partition partition then finmap.insert words (name_of file) (Some file.size) else words

-- one more file that is taken out, which may be another partition's
abbrev pub with_gone : List ℕ → WordMap → FileAt → WordMap
with_gone partition words file = if bytes_eq file.partition partition then finmap.insert words (name_of file) None else words

-- what is said of the files of a partition
abbrev pub said_in : List ℕ → List FileAt → List FileAt → WordMap
said_in partition news gone = fold (with_gone partition) (fold (with_new partition) finmap.empty news) gone

-- the word of a file
abbrev pub word_of : List ℕ × Option ℕ → NameWord
word_of (name, Some size) = record { name = name; size = size; deleted = false }
word_of (name, None) = record { name = name; size = 0; deleted = true }

-- a list of files, where there is one
abbrev pub named_files : List NameWord → Option Payload
named_files [] = None
named_files (word ∷ words) = Some (Files (word ∷ words))

-- what is added on a key: the partitions of the new files, or a word of each file of a partition
unfoldable pub delta_on : List ℕ → List FileAt → List FileAt → Option Payload
delta_on key news gone = if bytes_eq key all_partitions then partition_list (files_map news) else named_files (map word_of (finmap.entries (said_in key news gone)))

-- entries of a log that have on each key what is added there, and no others; each reads back
pub record IsDelta (news gone : List FileAt) (entries : List Entry) : Type 0 where
  pub are : AreEntries entries
  pub values : (key : List ℕ) → values_on_key key entries ≡ option_to_list (option_map encoding (delta_on key news gone))
  pub payloads : (key : List ℕ) → payloads_on_key key entries ≡ option_to_list (delta_on key news gone)

-- the shards that are touched: the one shard of the files, where there is a file
abbrev pub AreShards : List FileAt → List FileAt → List ShardEntries → Type 0
AreShards news gone [] = news ++ gone ≡ []
AreShards news gone (s ∷ []) = (news ++ gone ≢ []) × (s.shard ≡ 0) × IsDelta news gone s.entries
AreShards news gone (s ∷ (t ∷ shards)) = ⊥

-- the files are of partitions of the table
abbrev pub AreOf : FilesMap → List FileAt → Type 0
AreOf files gone = All (λ (file : FileAt). IsSome (finmap.get files file.partition)) gone

-- the table with the new files and without those that are taken out
abbrev pub files_after : FilesMap → List FileAt → List FileAt → FilesMap
files_after files news gone = fold without_file (fold with_file files news) gone
