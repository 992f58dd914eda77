-- What the index of files reads at an instant: the first base, and the logs of the commits that count up to it.
use Rattle.std.specs.Prelude.{ℕ, List, [], ◌++◌, Option, Some, None, option_and_then, unwrap_or, Result, Ok, Err, ◌==◌, if◌then◌else◌}
use Rattle.std.specs.List.{flat_map}
use Rattle.mx_base.specs.declared.entry.Entry.{Entry}
use Rattle.mx_hfile.specs.Decoding.{file_in}
use Rattle.mx_log.specs.Decoding.{log_in}
use Rattle.mx_model.specs.declared.action.Action.{Action}
use Rattle.mx_store.specs.Objects.{Objects}
use Rattle.mx_folder.specs.Named.{object_at, log_name, first_base}
use Rattle.mx_folder.specs.Actions.{actions_upto}

-- the entries that were read, none where a rule is broken
abbrev pub entries_read : Result (List Entry) ℕ → Option (List Entry)
entries_read (Ok entries) = Some entries
entries_read (Err left) = None

-- the entries that bytes spell as a base
unfoldable pub base_of : List ℕ → Option (List Entry)
base_of bytes = entries_read (file_in bytes)

-- the entries that were read, where they are of this instant
abbrev pub entries_of_instant : ℕ → Result (ℕ × List Entry) ℕ → Option (List Entry)
entries_of_instant at (Ok log) = if log.0 == at then Some log.1 else None
entries_of_instant at (Err left) = None

-- the entries that bytes spell as a log of an instant
unfoldable pub log_of : ℕ → List ℕ → Option (List Entry)
log_of at bytes = entries_of_instant at (log_in bytes)

-- the entries of the first base, none where it is absent or does not read
unfoldable pub base_entries : Objects → List Entry
base_entries objects = unwrap_or (option_and_then base_of (object_at objects first_base)) []

-- the entries of the log of an instant, none where it is absent or does not read
unfoldable pub entries_at : Objects → ℕ → List Entry
entries_at objects at = unwrap_or (option_and_then (log_of at) (object_at objects (log_name at))) []

-- the entries of the logs of these commits
abbrev pub logged_entries : Objects → List Action → List Entry
logged_entries objects actions = flat_map (λ (action : Action). entries_at objects action.at) actions

-- the slice at an instant: the first base, and the logs of the commits that count up to the instant
abbrev pub slice_at : Objects → ℕ → List Entry
slice_at objects at = base_entries objects ++ logged_entries objects (actions_upto objects at)
