-- What the opening of a table leaves of it.
use Rattle.std.specs.Prelude.{◌≡◌, ◌⊎◌, ℕ, ◌-◌, ◌≤◌, List, ◌++◌, length, take, Option, Some, None, IsSome, Result, Ok, Err}
use Rattle.mx_base.specs.declared.object_name.ObjectName.TheVariants.{Config}
use Rattle.mx_store.specs.Objects.{Objects, at_path, objects_of}
use Rattle.mx_store.specs.declared.change.Change.{Change}
use Rattle.mx_folder.specs.Named.{object_at, commit_name}
use Rattle.mx_folder.specs.Folder.{IsOpenable}
use Rattle.mx_folder.specs.Pending.{IsPending, ArePending, recovery_changes}
use Rattle.mx_folder.specs.declared.pending.Pending.{Pending}
use Rattle.mx_world.specs.Instants.{NamesInstant, AreUpto}
use Rattle.mx_world.specs.State.{Shown, Standing, standing}
use Rattle.mx_open.specs.Opening as folder
use Rattle.mx_open.specs.Opening.{CountsRead}
use Rattle.mx_open.specs.declared.error.ReadError.{ReadError}
use Rattle.mx_open.specs.declared.error.ReadError.TheVariants.{NotATable, Version, Damaged, StoreFault, NoMemory}
use Rattle.mx_recovery.specs.declared.error.OpenFailed.{OpenFailed}

-- what stands at some path names the instant
abbrev pub NamedIn : Objects → ℕ → Type 0
NamedIn objects at = (path : List ℕ) × IsSome (at_path objects path) × NamesInstant path at

-- the last instant: the greatest one in any name, or the one before now where that is later
pub record IsLast (now : ℕ) (objects : Objects) (last : ℕ) : Type 0 where
  pub upto : AreUpto last objects
  pub least : now - 1 ≤ last
  pub either : (last ≡ now - 1) ⊎ NamedIn objects last

-- no commit is pending, the same ones are completed by the same objects, and the config is the same
pub record IsSettled (before after : Objects) : Type 0 where
  pub pending : (at : ℕ) → ¬ (IsPending after at)
  pub commits : (at : ℕ) → object_at after (commit_name at) ≡ object_at before (commit_name at)
  pub config : object_at after Config ≡ object_at before Config

-- the folder opens, and behind the opening stand exactly recovery's changes
pub record IsOpened (now : ℕ) (opening : List Change) (after : Standing) : Type 0 where
  pub opens : IsOpenable (objects_of opening)
  pub pendings : List Pending
  pub pending : ArePending (objects_of opening) pendings
  pub journal : after.journal ≡ Some (opening ++ recovery_changes (objects_of opening) pendings)
  pub applied : after.applied ≡ length (recovery_changes (objects_of opening) pendings)
  pub sure : after.doubt ≡ None
  pub last : IsLast now (objects_of opening) after.last
  pub settled : IsSettled (objects_of opening) (objects_of (opening ++ recovery_changes (objects_of opening) pendings))

-- of a store that does not tell: nothing is in doubt, and the last instant is not before the one before now
pub record IsOpenedUntold (now : ℕ) (after : Standing) : Type 0 where
  pub journal : after.journal ≡ None
  pub sure : after.doubt ≡ None
  pub least : now - 1 ≤ after.last

-- the folder opens, and the first so many of recovery's changes were made
pub record IsFront (opening : List Change) (after : Option (List Change)) : Type 0 where
  pub opens : IsOpenable (objects_of opening)
  pub pendings : List Pending
  pub pending : ArePending (objects_of opening) pendings
  pub count : ℕ
  pub journal : after ≡ Some (opening ++ take count (recovery_changes (objects_of opening) pendings))

-- a refusal has its cause and changes nothing; after a fault a front of recovery's changes was made
abbrev pub IsRefused : List Change → Option (List Change) → ReadError → Type 0
IsRefused opening after NotATable = folder.Opens (objects_of opening) (Err NotATable) × (after ≡ Some opening)
IsRefused opening after (Version found) = folder.Opens (objects_of opening) (Err (Version found)) × (after ≡ Some opening)
IsRefused opening after (Damaged path) = folder.Opens (objects_of opening) (Err (Damaged path)) × (after ≡ Some opening)
IsRefused opening after StoreFault = (after ≡ Some opening) ⊎ IsFront opening after
IsRefused opening after NoMemory = (after ≡ Some opening) ⊎ IsFront opening after

-- what the opening leaves, by its answer
abbrev pub Opens : {S : Type 0} → (S → Option (List Change)) → ℕ → Option (List Change) → Result (Shown S) (OpenFailed S) → Type 0
Opens journal now None (Ok world) = IsOpenedUntold now (standing journal world)
Opens journal now None (Err failed) = journal failed.store ≡ None
Opens journal now (Some opening) (Ok world) = IsOpened now opening (standing journal world)
Opens journal now (Some opening) (Err failed) = IsRefused opening (journal failed.store) failed.why

abbrev pub store_of : {S : Type 0} → Result (Shown S) (OpenFailed S) → S
store_of (Ok world) = world.store
store_of (Err failed) = failed.store

-- StoreFault only where the count rose, and any other answer leaves it
abbrev pub CountsOpening : {S : Type 0} → ℕ → ℕ → Result (Shown S) (OpenFailed S) → Type 0
CountsOpening before now (Ok world) = now ≡ before
CountsOpening before now (Err failed) = CountsRead {T = Unit {0}} before now (Err failed.why)
