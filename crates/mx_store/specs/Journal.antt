-- Journals of a store: which lists of changes are one, and what they leave at a moment.
use Rattle.std.specs.Prelude.{◌≡◌, ℕ, ◌+◌, List, [], ◌∷◌, length, take, Option, Some, None, IsSome}
use Rattle.std.specs.FinMap as map
use Rattle.mx_store.specs.declared.change.Change.{Change}
use Rattle.mx_store.specs.declared.change.Change.TheVariants.{Create, Put, Delete}
use Rattle.mx_store.specs.Objects.{Objects, at_path, apply, objects_of}

-- a create is of a path where nothing stands, and a delete of one where something does
abbrev pub IsAllowed : Objects → Change → Type 0
IsAllowed objects (Create path bytes) = at_path objects path ≡ None
IsAllowed objects (Put path bytes) = Unit {0}
IsAllowed objects (Delete path) = IsSome (at_path objects path)

-- each change is allowed on what the changes before it leave
abbrev pub AreAllowed : Objects → List Change → Type 0
AreAllowed objects [] = Unit {0}
AreAllowed objects (change ∷ changes) = IsAllowed objects change × AreAllowed (apply change objects) changes

-- a list of changes that a store can have made, begun with no object
abbrev pub IsJournal : List Change → Type 0
IsJournal changes = AreAllowed map.empty changes

-- the later journal begins with the earlier one; both are told or neither is
abbrev pub Begins : Option (List Change) → Option (List Change) → Type 0
Begins None later = later ≡ None
Begins (Some opening) None = ⊥
Begins (Some opening) (Some journal) = take (length opening) journal ≡ opening

-- the objects as they were so many changes after an opening of that length
abbrev pub snapshot_at : List Change → ℕ → ℕ → Objects
snapshot_at journal opening seq = objects_of (take (opening + seq) journal)
