-- For private clauses: what the opening of a folder will do.
use Rattle.std.specs.Prelude.{◌≡◌, ◌⊎◌, ℕ, ◌-◌, ◌≤◌, Bool, List, All, Contains, max, is_some, Option, Some, None, Result, Ok, Err}
use Rattle.std.specs.BTreeSet.{BTreeSet, contains}
use Rattle.std.specs.List.{list_any}
use Rattle.std.specs.Ordering.{nat_cmp, eq_by_cmp}
use Rattle.std.specs.Cmp.Lexicographic.{slice_cmp}
use Rattle.mx_store.specs.Objects.{Objects, at_path}
use Rattle.mx_store.specs.declared.change.Change.{Change}
use Rattle.mx_store.specs.declared.change.Change.TheVariants.{Create, Put, Delete}
use Rattle.mx_folder.specs.Folder.{IsOpenable}
use Rattle.mx_folder.specs.Pending.{ArePending, recovery_changes}
use Rattle.mx_folder.specs.declared.pending.Pending.{Pending}
use Rattle.mx_world.specs.Instants.{NamesInstant}
use Rattle.mx_world.specs.Mirror.{IsMirrorOf, IsNoConfig}
use Rattle.mx_world.specs.declared.error.ChangeError.{ChangeError}
use Rattle.mx_world.specs.declared.error.ChangeError.TheVariants as change
use Rattle.mx_open.specs.Opening as folder
use Rattle.mx_open.specs.declared.error.ReadError.{ReadError}
use Rattle.mx_open.specs.declared.error.ReadError.TheVariants.{StoreFault, NoMemory}
use Rattle.mx_recovery.specs.Recovering.{IsLast}
use Rattle.mx_recovery.specs.declared.plan.Plan.{Plan}

-- the greatest of the instant and those that the paths name
pub record IsGreatestOf (start : ℕ) (paths : List (List ℕ)) (greatest : ℕ) : Type 0 where
  pub least : start ≤ greatest
  pub upto : All (λ (path : List ℕ). (at : ℕ) → NamesInstant path at → at ≤ greatest) paths
  pub either : (greatest ≡ start) ⊎ ((path : List ℕ) × Contains paths path × NamesInstant path greatest)

-- the later of the instant and the other one, where there is one
abbrev pub GoesOver : ℕ → Option ℕ → ℕ → Type 0
GoesOver greatest None after = after ≡ greatest
GoesOver greatest (Some at) after = after ≡ max greatest at

-- the greatest of the instant before now and those that these paths and the others name
abbrev pub IsLastOf : ℕ → List (List ℕ) → List (List ℕ) → ℕ → Type 0
IsLastOf now names others last = (during : ℕ) × IsGreatestOf (now - 1) names during × IsGreatestOf during others last

abbrev pub stands_among : List (List ℕ) → List ℕ → Bool
stands_among paths q = list_any (λ (path : List ℕ). eq_by_cmp (slice_cmp nat_cmp) path q) paths

-- the set has the paths where something stands
abbrev pub AreStanding : BTreeSet (List ℕ) → Objects → Type 0
AreStanding standing objects = (q : List ℕ) → contains (slice_cmp nat_cmp) standing q ≡ is_some (at_path objects q)

-- a delete, of another object than the config
abbrev pub IsDeletion : Change → Type 0
IsDeletion (Create path bytes) = ⊥
IsDeletion (Put path bytes) = ⊥
IsDeletion (Delete path) = IsNoConfig path

-- the plan is the one for this folder
pub record IsPlanOf (now : ℕ) (objects : Objects) (plan : Plan) : Type 0 where
  pub opens : IsOpenable objects
  pub pendings : List Pending
  pub pending : ArePending objects pendings
  pub changes : plan.changes ≡ recovery_changes objects pendings
  pub last : IsLast now objects plan.last
  pub mirror : IsMirrorOf objects plan.mirror

-- there is a plan where the folder opens; else its refusal has its cause
abbrev pub Plans : ℕ → Objects → Result Plan ReadError → Type 0
Plans now objects (Ok plan) = IsPlanOf now objects plan
Plans now objects (Err why) = folder.Opens objects (Err why)

-- what a change that was not made is to the opening
abbrev pub why_of : ChangeError → ReadError
why_of change.StoreFault = StoreFault
why_of change.NoMemory = NoMemory
why_of (change.InDoubt path) = NoMemory
why_of (change.Changed path) = NoMemory
