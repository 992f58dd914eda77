-- What a delta says on each of its keys.
use Rattle.std.specs.Prelude.{ℕ, List, map, fold, Option, Some, None, IfSome, unwrap_or, bytes_eq, if◌then◌else◌}
use Rattle.std.specs.Ordering.{nat_cmp}
use Rattle.std.specs.Cmp.Lexicographic.{slice_cmp}
use Rattle.std.specs.FinMap as finmap
use Rattle.mx_base.specs.declared.entry.Entry.{Entry}
use Rattle.mx_base.specs.declared.entry.FileAt.{FileAt}
use Rattle.mx_payload.specs.declared.payload.Payload.{Payload}
use Rattle.mx_payload.specs.declared.payload.Payload.TheVariants.{Partitions, Files}
use Rattle.mx_payload.specs.Rules.{IsLong}
use Rattle.mx_payload.specs.Encoding.{encoding}
use Rattle.mx_files.specs.Files.{all_partitions, name_of}
use Rattle.mx_files.specs.Delta.{WordMap, word_of}

-- a long can hold each size
abbrev pub AreLong : WordMap → Type 0
AreLong words = (name : List ℕ) → IfSome (finmap.get words name) (λ size. IfSome size IsLong)

-- from keys to what is said there
abbrev pub SaidMap : Type 0
SaidMap = finmap.FinMap (slice_cmp nat_cmp) WordMap

-- what is said on a key, nothing where it is not one
abbrev pub said_on : SaidMap → List ℕ → WordMap
said_on said key = unwrap_or (finmap.get said key) finmap.empty

-- one more name on a key
abbrev pub with_said : SaidMap → List ℕ → List ℕ → Option ℕ → SaidMap
with_said said key name size = finmap.insert said key (finmap.insert (said_on said key) name size)

-- one more new file, whose partition is among all partitions
abbrev pub with_new_file : SaidMap → FileAt → SaidMap
with_new_file said file = with_said (with_said said file.partition (name_of file) (Some file.size)) all_partitions file.partition (Some 0)

-- one more file that is taken out
abbrev pub with_gone_file : SaidMap → FileAt → SaidMap
with_gone_file said file = with_said said file.partition (name_of file) None

-- what an action says
abbrev pub said_of : List FileAt → List FileAt → SaidMap
said_of news gone = fold with_gone_file (fold with_new_file finmap.empty news) gone

-- the payload of a key: names of partitions, or words of files
abbrev pub payload_of_key : List ℕ × WordMap → Payload
payload_of_key (key, words) = if bytes_eq key all_partitions then Partitions (finmap.keys words) else Files (map word_of (finmap.entries words))

-- the entry of a key
abbrev pub entry_of : List ℕ × WordMap → Entry
entry_of (key, words) = record { key = key; value = encoding (payload_of_key (key, words)) }
