-- What is kept of the values on a key while they are read, the oldest first.
use Rattle.std.specs.Prelude.{◌≡◌, ℕ, ◌-◌, Bool, false, List, [], ◌∷◌, ◌++◌, map, length, Option, Some, None, IfSome, option_map, unwrap_or, Result, Ok, Err, nat_eq, filter_map, if◌then◌else◌}
use Rattle.std.specs.List.{AllByRecursion, starts_with}
use Rattle.std.specs.BTreeMap as tree
use Rattle.std.specs.Ordering.{nat_cmp}
use Rattle.std.specs.Cmp.Lexicographic.{slice_cmp}
use Rattle.std.specs.FinMap as finmap
use Rattle.mx_base.specs.declared.entry.Entry.{Entry}
use Rattle.mx_payload.specs.declared.payload.Payload.{Payload}
use Rattle.mx_payload.specs.declared.payload.Payload.TheVariants.{Partitions, Files, Stats, Bloom, Location}
use Rattle.mx_payload.specs.Rules.{IsText, IsLong, IsWellFormed, plain}
use Rattle.mx_payload.specs.Encoding.{encoding}
use Rattle.mx_payload.specs.Decoding.{payload_in}
use Rattle.mx_merge.specs.declared.run.Run.{Run}
use Rattle.mx_merge.specs.declared.run.Run.TheVariants as runs
use Rattle.mx_merge.specs.declared.known.Known.{Known}
use Rattle.mx_merge.specs.declared.known.Known.TheVariants.{Said, Bad}
use Rattle.mx_merge.specs.declared.error.MergeError.{MergeError}
use Rattle.mx_merge.specs.declared.error.MergeError.TheVariants.{NoMemory, BadPayload}
use Rattle.mx_merge.specs.Shown.{SizeMap, sizes_left, words_with}
use Rattle.mx_merge.specs.Merged.{values_on_key}

-- the sizes that one more list of partitions goes over
abbrev pub partition_sizes : Run → SizeMap
partition_sizes runs.Nothing = finmap.empty
partition_sizes (runs.Partitions sizes) = sizes
partition_sizes (runs.Files sizes) = finmap.empty
partition_sizes (runs.Last payload) = finmap.empty

-- the sizes that one more list of files goes over
abbrev pub file_sizes : Run → SizeMap
file_sizes runs.Nothing = finmap.empty
file_sizes (runs.Partitions sizes) = finmap.empty
file_sizes (runs.Files sizes) = sizes
file_sizes (runs.Last payload) = finmap.empty

-- a run after one more payload
abbrev pub pushed : Run → Payload → Run
pushed run (Partitions names) = runs.Partitions (sizes_left (partition_sizes run) (map plain names))
pushed run (Files words) = runs.Files (sizes_left (file_sizes run) words)
pushed run (Stats file column stat deleted) = runs.Last (Stats file column stat deleted)
pushed run (Bloom bits deleted) = runs.Last (Bloom bits deleted)
pushed run (Location partition file instant deleted) = runs.Last (Location partition file instant deleted)

-- whether a payload is deleted as a whole
abbrev pub is_deleted : Payload → Bool
is_deleted (Partitions names) = false
is_deleted (Files words) = false
is_deleted (Stats file column stat deleted) = deleted
is_deleted (Bloom bits deleted) = deleted
is_deleted (Location partition file instant deleted) = deleted

-- what a run shows
abbrev pub shown_run : Run → Option Payload
shown_run runs.Nothing = None
shown_run (runs.Partitions sizes) = Some (Partitions (finmap.keys sizes))
shown_run (runs.Files sizes) = Some (Files (words_with sizes))
shown_run (runs.Last payload) = if is_deleted payload then None else Some payload

-- names are texts, and sizes are those that a long can hold
abbrev pub AreLong : SizeMap → Type 0
AreLong sizes = (name : List ℕ) (size : ℕ) → finmap.get sizes name ≡ Some size → IsText name × IsLong size

-- a run of payloads that keep their rules
abbrev pub IsKept : Run → Type 0
IsKept runs.Nothing = Unit {0}
IsKept (runs.Partitions sizes) = AreLong sizes
IsKept (runs.Files sizes) = AreLong sizes
IsKept (runs.Last payload) = IsWellFormed payload

-- a run after a value that was read, or the place of its first broken rule
abbrev pub heard_as : Run → ℕ → Result Payload ℕ → Known
heard_as run len (Ok payload) = Said (pushed run payload)
heard_as run len (Err left) = Bad (len - left)

-- what is known of a key after one more value: the first bad one stays
abbrev pub heard : Known → List ℕ → Known
heard (Said run) value = heard_as run (length value) (payload_in value)
heard (Bad at) value = Bad at

-- what was read keeps its rules
abbrev pub IsKnown : Known → Type 0
IsKnown (Said run) = IsKept run
IsKnown (Bad at) = Unit {0}

-- what is known of a key shows
abbrev pub shown_known : Known → Option Payload
shown_known (Said run) = shown_run run
shown_known (Bad at) = None

-- the answer for what is known of a key
abbrev pub Tells : Known → Result (Option Payload) MergeError → Type 0
Tells known (Err NoMemory) = Unit {0}
Tells (Said run) (Ok found) = found ≡ shown_run run
Tells (Said run) (Err (BadPayload at)) = ⊥
Tells (Bad at) (Ok found) = ⊥
Tells (Bad at) (Err (BadPayload place)) = place ≡ at

-- what is known of each key that was met
abbrev pub KnownMap : Type 0
KnownMap = tree.BTreeMap (List ℕ) Known

-- what is known of a key, where of one that was not met nothing was said
abbrev pub known_at : KnownMap → List ℕ → Known
known_at met key = unwrap_or (tree.get (slice_cmp nat_cmp) met key) (Said runs.Nothing)

-- the values on a key, where it has the prefix
abbrev pub asked : List ℕ → List ℕ → List Entry → List (List ℕ)
asked prefix key entries = if starts_with nat_eq key prefix then values_on_key key entries else []

-- the entry of what a key shows
abbrev pub entry_with : List ℕ → Payload → Entry
entry_with key payload = record { key = key; value = encoding payload }

-- the entry of a key and what is known of it
abbrev pub entry_on : List ℕ × Known → Option Entry
entry_on e = option_map (entry_with e.0) (shown_known e.1)

-- no value on the key is bad, and what it shows keeps its rules
abbrev pub IsShown : Known → Type 0
IsShown (Said run) = IfSome (shown_run run) IsWellFormed
IsShown (Bad at) = ⊥

-- no key has a bad value, and these are their entries
pub record AreEntries (met : List (List ℕ × Known)) (entries : List Entry) : Type 0 where
  pub shown : AllByRecursion (λ e. IsShown e.1) met
  pub are : entries ≡ filter_map entry_on met

-- the first key that has a bad value, and its place
pub record StopsAt (met : List (List ℕ × Known)) (at : ℕ) : Type 0 where
  pub before : List (List ℕ × Known)
  pub key : List ℕ
  pub behind : List (List ℕ × Known)
  pub parts : met ≡ before ++ (key, Bad at) ∷ behind
  pub shown : AllByRecursion (λ e. IsShown e.1) before

-- the answer for all keys that were met
abbrev pub TellsAll : List (List ℕ × Known) → Result (List Entry) MergeError → Type 0
TellsAll met (Ok entries) = AreEntries met entries
TellsAll met (Err NoMemory) = Unit {0}
TellsAll met (Err (BadPayload at)) = StopsAt met at

-- an error for what is known of a key: the bad value, unless memory ran out
abbrev pub FailsBy : Known → MergeError → Type 0
FailsBy known NoMemory = Unit {0}
FailsBy known (BadPayload at) = known ≡ Bad at
