-- The instants that paths name.
use Rattle.std.specs.Prelude.{◌≡◌, ◌⊎◌, ◌↔◌, ℕ, ◌≤◌, max, List, length, Contains, Option, Some, None, IsSome, IsTrue}
use Rattle.std.specs.BTreeSet.{BTreeSet, contains}
use Rattle.std.specs.List.Sorted.{IsStrictlySortedBy}
use Rattle.std.specs.Ordering.{nat_cmp}
use Rattle.mx_base.specs.DataFiles.{IsDataFileAt}
use Rattle.mx_base.specs.Objects.{IsObjectName, object_path}
use Rattle.mx_base.specs.declared.data_file.DataFile.{DataFile}
use Rattle.mx_base.specs.declared.object_name.ActionKind.{ActionKind}
use Rattle.mx_base.specs.declared.object_name.ActionState.{ActionState}
use Rattle.mx_base.specs.declared.object_name.ActionState.TheVariants.{Requested, Inflight, Completed}
use Rattle.mx_base.specs.declared.object_name.ObjectName.{ObjectName}
use Rattle.mx_base.specs.declared.object_name.ObjectName.TheVariants.{Config, Timeline, Metadata, Base, Log}
use Rattle.mx_store.specs.Objects.{Objects, at_path}
use Rattle.mx_folder.specs.Named.{object_at}

-- the instant of an object's name, none of the config's
abbrev pub instant_of : ObjectName → Option ℕ
instant_of Config = None
instant_of (Timeline at kind state) = Some at
instant_of (Metadata at kind completed) = Some at
instant_of (Base part shard upto kind) = Some upto
instant_of (Log part shard at) = Some at

-- the path is the one of an object or of a data file of the instant
abbrev pub NamesInstant : List ℕ → ℕ → Type 0
NamesInstant path at =
    ((name : ObjectName) × IsObjectName name × (path ≡ object_path name) × (instant_of name ≡ Some at))
    ⊎ ((file : DataFile) × IsDataFileAt path file × (file.at ≡ at))

-- no path where something stands names a greater instant
abbrev pub AreUpto : ℕ → Objects → Type 0
AreUpto last objects = (path : List ℕ) (at : ℕ) → IsSome (at_path objects path) → NamesInstant path at → at ≤ last

-- the path is the one of the object that requests an action at the instant
abbrev pub Requests : List ℕ → ℕ → Type 0
Requests path at = (kind : ActionKind) × IsObjectName (Timeline at kind Requested) × (path ≡ object_path (Timeline at kind Requested))

-- the instant of an object that requests an action
abbrev pub requested_in : ObjectName → Option ℕ
requested_in Config = None
requested_in (Timeline at kind Requested) = Some at
requested_in (Timeline at kind Inflight) = None
requested_in (Timeline at kind Completed) = None
requested_in (Metadata at kind completed) = None
requested_in (Base part shard upto kind) = None
requested_in (Log part shard at) = None

-- the last instant once an object was asked for: one that requests an action draws its instant
pub record IsDrawnBy (path : List ℕ) (last after : ℕ) : Type 0 where
  pub drawn : (at : ℕ) → Requests path at → after ≡ max last at
  pub kept : ((at : ℕ) → ¬ (Requests path at)) → after ≡ last

-- an object of an action of the instant stands
abbrev pub HasAction : Objects → ℕ → Type 0
HasAction objects at = (kind : ActionKind) × (state : ActionState) × IsSome (object_at objects (Timeline at kind state))

-- objects of actions stand of so many instants
pub record CountsInstants (objects : Objects) (count : ℕ) : Type 0 where
  pub instants : List ℕ
  pub rising : IsStrictlySortedBy nat_cmp instants
  pub each : (at : ℕ) → Contains instants at ↔ HasAction objects at
  pub count_is : count ≡ length instants

-- ---- for private clauses

-- the path is the one of an object of an action of the instant
abbrev pub IsOfAction : List ℕ → ℕ → Type 0
IsOfAction path at = (kind : ActionKind) × (state : ActionState) × IsObjectName (Timeline at kind state) × (path ≡ object_path (Timeline at kind state))

-- the instant of an object of an action
abbrev pub action_in : ObjectName → Option ℕ
action_in Config = None
action_in (Timeline at kind state) = Some at
action_in (Metadata at kind completed) = None
action_in (Base part shard upto kind) = None
action_in (Log part shard at) = None

-- the set has the instants of the actions whose objects have these paths
abbrev pub HasActionsOf : List (List ℕ) → BTreeSet ℕ → Type 0
HasActionsOf paths instants = (at : ℕ) → IsTrue (contains nat_cmp instants at) ↔ ((path : List ℕ) × Contains paths path × IsOfAction path at)

-- the second set has the instants of the first, and that of the action of whose object this is the path
abbrev pub HasActionToo : List ℕ → BTreeSet ℕ → BTreeSet ℕ → Type 0
HasActionToo path old new = (at : ℕ) → IsTrue (contains nat_cmp new at) ↔ (IsTrue (contains nat_cmp old at) ⊎ IsOfAction path at)

-- the paths are of objects of actions of so many instants
pub record CountsActionsOf (paths : List (List ℕ)) (count : ℕ) : Type 0 where
  pub instants : BTreeSet ℕ
  pub rising : IsStrictlySortedBy nat_cmp instants.keys
  pub has : HasActionsOf paths instants
  pub count_is : count ≡ length instants.keys
