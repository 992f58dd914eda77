-- What a look-up answers, and what it reads.
use Rattle.std.specs.Prelude.{◌≡◌, ℕ, ◌≤◌, List, [], ◌∷◌, ◌++◌, Option, Some, None, map, unwrap_or, option_and_then, IfSome}
use Rattle.std.specs.List.{flat_map}
use Rattle.std.specs.Option.{option_map_or}
use Rattle.mx_ask.specs.declared.ask.Question.{Question}
use Rattle.mx_ask.specs.declared.ask.Question.TheVariants as asked
use Rattle.mx_ask.specs.declared.reply.FileSize.{FileSize}
use Rattle.mx_ask.specs.declared.reply.Reply.{Reply}
use Rattle.mx_base.specs.Objects.{object_path}
use Rattle.mx_base.specs.declared.entry.Entry.{Entry}
use Rattle.mx_files.specs.Files.{files_map, all_partitions}
use Rattle.mx_meta.specs.Views.{Bases}
use Rattle.mx_merge.specs.declared.log.Log.{Log}
use Rattle.mx_model.specs.Answer.{answer}
use Rattle.mx_model.specs.Listing.{listed_files}
use Rattle.mx_payload.specs.declared.payload.NameWord.{NameWord}
use Rattle.mx_payload.specs.declared.payload.Payload.{Payload}
use Rattle.mx_payload.specs.declared.payload.Payload.TheVariants as payloads
use Rattle.mx_store.specs.declared.change.Change.{Change}
use Rattle.mx_store.specs.Objects.{Objects, at_path, objects_of}
use Rattle.mx_folder.specs.Named.{first_base, log_name}
use Rattle.mx_folder.specs.Actions.{actions_upto}
use Rattle.mx_folder.specs.Completed.{completed_upto}
use Rattle.mx_folder.specs.Folder.{IsValidTable}
use Rattle.mx_folder.specs.Reading.{named_bases}
use Rattle.mx_folder.specs.Slices.{base_of, log_of}
use Rattle.mx_world.specs.Mirror.{IsNewest}

-- the instant that a look-up is for: the one that is asked for, else that of the newest completed commit
abbrev pub IsPinned : Objects → Option ℕ → ℕ → Type 0
IsPinned objects None at = IsNewest objects at
IsPinned objects (Some asked) at = at ≡ asked

-- the floor, below which files may be gone: what the base that counts has is up to it
abbrev pub floor : Objects → ℕ
floor objects = option_map_or (λ (bases : Bases). bases.upto) (named_bases objects) 0

-- where the logs of these instants stand
abbrev pub log_paths : List ℕ → List (List ℕ)
log_paths instants = map (λ at. object_path (log_name at)) instants

-- where the first base stands, and the logs
abbrev pub slice_paths : List ℕ → List (List ℕ)
slice_paths instants = object_path first_base ∷ log_paths instants

-- these paths were read, in this order, where reads are told
abbrev pub ReadsAll : List (List ℕ) → Option (List (List ℕ)) → Option (List (List ℕ)) → Type 0
ReadsAll paths None after = after ≡ None
ReadsAll paths (Some before) after = after ≡ Some (before ++ paths)

-- where reads are told, none that was noted is gone
abbrev pub ReadsOn : Option (List (List ℕ)) → Option (List (List ℕ)) → Type 0
ReadsOn None after = after ≡ None
ReadsOn (Some before) after = (more : List (List ℕ)) × (after ≡ Some (before ++ more))

-- what the files that the commits up to the instant list answer; the first base is read, and of each completed commit the log,
-- each once, and nothing else
pub record IsLookedUp (objects : Objects) (question : Question) (asked : Option ℕ) (reply : Reply) (before after : Option (List (List ℕ))) : Type 0 where
  pub at : ℕ
  pub pinned : IsPinned objects asked at
  pub retained : IsValidTable objects → floor objects ≤ at
  pub answer : IsValidTable objects → reply ≡ answer question (files_map (listed_files (actions_upto objects at))) at
  pub reads : ReadsAll (slice_paths (completed_upto objects at)) before after

-- the reply is one to a look-up, which comes of a store that tells nothing too
abbrev pub IsAnswer : Reply → Type 0
IsAnswer (Reply.Files at files) = Unit {0}
IsAnswer (Reply.Partitions at partitions) = Unit {0}
IsAnswer (Reply.Committed at files) = ⊥
IsAnswer (Reply.Refused refusal) = ⊥

-- ---- for private clauses

-- the key that a question is about
abbrev pub key_of : Question → List ℕ
key_of (asked.Files partition) = partition
key_of asked.Partitions = all_partitions

-- a file and its size, by its word
abbrev pub file_size : NameWord → FileSize
file_size w = record { name = w.name; size = w.size }

-- the names and sizes of a list of files, none of another payload
abbrev pub sizes_told : Option Payload → List FileSize
sizes_told None = []
sizes_told (Some (payloads.Partitions names)) = []
sizes_told (Some (payloads.Files words)) = map file_size words
sizes_told (Some (payloads.Stats file column stat deleted)) = []
sizes_told (Some (payloads.Bloom bits deleted)) = []
sizes_told (Some (payloads.Location partition file instant deleted)) = []

-- the names of a list of partitions, none of another payload
abbrev pub names_told : Option Payload → List (List ℕ)
names_told None = []
names_told (Some (payloads.Partitions names)) = names
names_told (Some (payloads.Files words)) = []
names_told (Some (payloads.Stats file column stat deleted)) = []
names_told (Some (payloads.Bloom bits deleted)) = []
names_told (Some (payloads.Location partition file instant deleted)) = []

-- the reply to a question whose key shows this
abbrev pub told : Question → ℕ → Option Payload → Reply
told (asked.Files partition) at found = Reply.Files at (sizes_told found)
told asked.Partitions at found = Reply.Partitions at (names_told found)

-- the entries of the base at its path, none where it is absent or does not read
abbrev pub base_there : Objects → List Entry
base_there objects = unwrap_or (option_and_then base_of (at_path objects (object_path first_base))) []

-- the entries of the log at the path of an instant, none where it is absent or does not read
abbrev pub log_there : Objects → ℕ → List Entry
log_there objects at = unwrap_or (option_and_then (log_of at) (at_path objects (object_path (log_name at)))) []

-- the entries are those of the base, where they are told
abbrev pub IsBase : Option (List Change) → List Entry → Type 0
IsBase journal entries = IfSome journal (λ j. entries ≡ base_there (objects_of j))

-- the logs have the entries of the logs of these instants, where they are told
abbrev pub AreLogs : Option (List Change) → List ℕ → List Log → Type 0
AreLogs journal instants logs = IfSome journal (λ j. flat_map (λ (log : Log). log.entries) logs ≡ flat_map (log_there (objects_of j)) instants)
