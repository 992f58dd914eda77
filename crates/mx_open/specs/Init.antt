-- What `init` answers, and what it leaves of a folder.
use Rattle.std.specs.Prelude.{◌≡◌, ◌≢◌, ℕ, List, ◌++◌, take, Option, Some, None, option_map, IsSome, Result, Ok, Err}
use Rattle.std.specs.Ordering.{nat_cmp}
use Rattle.std.specs.Cmp.Lexicographic.{slice_cmp}
use Rattle.std.specs.declared.cmp.Ordering.TheVariants.{Less}
use Rattle.mx_schema.specs.declared.column.Column.{Column}
use Rattle.mx_store.specs.Calls.{Rose}
use Rattle.mx_store.specs.Journal.{AreAllowed}
use Rattle.mx_store.specs.Objects.{Objects, at_path, objects_of}
use Rattle.mx_store.specs.declared.change.Change.{Change}
use Rattle.mx_store.specs.declared.change.Change.TheVariants.{Create}
use Rattle.mx_store.specs.declared.store.StoreError.{StoreError}
use Rattle.mx_store.specs.declared.store.StoreError.TheVariants as store
use Rattle.mx_folder.specs.Actions.{IsCompleted}
use Rattle.mx_folder.specs.Begin.{init_changes}
use Rattle.mx_folder.specs.Folder.{IsValidTable}
use Rattle.mx_open.specs.declared.error.InitError.{InitError}
use Rattle.mx_open.specs.declared.error.InitError.TheVariants.{NotEmpty, StoreFault, NoMemory}
use Rattle.mx_open.specs.declared.new_table.NewObject.{NewObject}

-- nothing stands anywhere
abbrev pub HoldsNothing : Objects → Type 0
HoldsNothing objects = (path : List ℕ) → at_path objects path ≡ None

-- something stands at the path, and at none before it in byte order
pub record IsFirstPath (objects : Objects) (path : List ℕ) : Type 0 where
  pub stands : IsSome (at_path objects path)
  pub first : (other : List ℕ) → IsSome (at_path objects other) → slice_cmp nat_cmp other path ≢ Less

-- the first path, and none where nothing stands, where the folder is told
abbrev pub FirstOf : Option (List Change) → Option (List ℕ) → Type 0
FirstOf None found = Unit {0}
FirstOf (Some journal) None = HoldsNothing (objects_of journal)
FirstOf (Some journal) (Some path) = IsFirstPath (objects_of journal) path

-- the folder held nothing, where it is told
abbrev pub WasEmpty : Option (List Change) → Type 0
WasEmpty None = Unit {0}
WasEmpty (Some journal) = HoldsNothing (objects_of journal)

-- the journal with these changes more, where it is told
abbrev pub with_changes : Option (List Change) → List Change → Option (List Change)
with_changes journal changes = option_map (λ before. before ++ changes) journal

-- the first so many of the changes were made, and any of them only in a folder that held nothing
pub record MadeFront (changes : List Change) (before after : Option (List Change)) : Type 0 where
  pub count : ℕ
  pub made : after ≡ with_changes before (take count changes)
  pub empty : count ≢ 0 → WasEmpty before

-- a new table is made where nothing stood; where something did, its first path is named and nothing is changed
abbrev pub Inits : List Column → Option (List Change) → Option (List Change) → Result Unit InitError → Type 0
Inits schema before after (Ok done) = WasEmpty before × (after ≡ with_changes before (init_changes schema))
Inits schema None after (Err (NotEmpty path)) = after ≡ None
Inits schema (Some journal) after (Err (NotEmpty path)) = IsFirstPath (objects_of journal) path × (after ≡ Some journal)
Inits schema before after (Err StoreFault) = MadeFront (init_changes schema) before after
Inits schema before after (Err NoMemory) = MadeFront (init_changes schema) before after

-- a valid table of which no commit is completed
pub record IsNewTable (objects : Objects) : Type 0 where
  pub valid : IsValidTable objects
  pub fresh : (at : ℕ) → ¬ (IsCompleted objects at)

-- a fault only where the count rose, and any other answer leaves it
abbrev pub CountsInit : {T : Type 0} → ℕ → ℕ → Result T InitError → Type 0
CountsInit before now (Ok x) = now ≡ before
CountsInit before now (Err (NotEmpty path)) = now ≡ before
CountsInit before now (Err StoreFault) = Rose before now
CountsInit before now (Err NoMemory) = now ≡ before

-- what a fault of the store is to `init`
abbrev pub init_fault : StoreError → InitError
init_fault store.Failed = StoreFault
init_fault store.NoMemory = NoMemory

-- ---- for private clauses

-- an object that is to be made
abbrev pub creation : NewObject → Change
creation object = Create object.path object.bytes

-- each of the changes may be made in its turn, where it is told
abbrev pub MayMake : Option (List Change) → List Change → Type 0
MayMake None changes = Unit {0}
MayMake (Some journal) changes = AreAllowed (objects_of journal) changes

-- the changes are made, or the first ones; an object that stands is met only where nothing is told
abbrev pub Makes : List Change → Option (List Change) → Option (List Change) → Result Unit InitError → Type 0
Makes changes before after (Ok done) = after ≡ with_changes before changes
Makes changes None after (Err (NotEmpty path)) = after ≡ None
Makes changes (Some journal) after (Err (NotEmpty path)) = ⊥
Makes changes before after (Err StoreFault) = (count : ℕ) × (after ≡ with_changes before (take count changes))
Makes changes before after (Err NoMemory) = (count : ℕ) × (after ≡ with_changes before (take count changes))
