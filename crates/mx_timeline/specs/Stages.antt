-- What the timeline keeps: for each kind of action two sets of instants.
use Rattle.std.specs.Prelude.{◌≡◌, ◌≤◌, ℕ, nat_eq, Bool, true, false, IsTrue, Option, Some, None, min, if◌then◌else◌}
use Rattle.std.specs.Option.{option_map_or}
use Rattle.std.specs.BTreeSet.{contains}
use Rattle.std.specs.Ordering.{nat_cmp}
use Rattle.mx_base.specs.declared.object_name.ActionKind.{ActionKind}
use Rattle.mx_base.specs.declared.object_name.ActionKind.TheVariants.{Commit, Clean, Rollback, Indexing}
use Rattle.mx_base.specs.declared.object_name.ActionState.TheVariants.{Requested, Inflight, Completed}
use Rattle.mx_base.specs.declared.object_name.ObjectName.{ObjectName}
use Rattle.mx_base.specs.declared.object_name.ObjectName.TheVariants.{Config, Timeline, Metadata, Base, Log}
use Rattle.mx_timeline.specs.declared.stages.Stages.{Stages}

abbrev pub same_kind : ActionKind → ActionKind → Bool
same_kind Commit Commit = true
same_kind Commit Clean = false
same_kind Commit Rollback = false
same_kind Commit Indexing = false
same_kind Clean Commit = false
same_kind Clean Clean = true
same_kind Clean Rollback = false
same_kind Clean Indexing = false
same_kind Rollback Commit = false
same_kind Rollback Clean = false
same_kind Rollback Rollback = true
same_kind Rollback Indexing = false
same_kind Indexing Commit = false
same_kind Indexing Clean = false
same_kind Indexing Rollback = false
same_kind Indexing Indexing = true

-- the instant of an object of an action of the kind
abbrev pub begun_at : ActionKind → ObjectName → Option ℕ
begun_at kind (Timeline at other state) = if same_kind kind other then Some at else None
begun_at kind Config = None
begun_at kind (Metadata at other completed) = None
begun_at kind (Base part shard upto by) = None
begun_at kind (Log part shard at) = None

-- the instant of the completed object of an action of the kind
abbrev pub completed_at : ActionKind → ObjectName → Option ℕ
completed_at kind (Timeline at other Completed) = if same_kind kind other then Some at else None
completed_at kind (Timeline at other Requested) = None
completed_at kind (Timeline at other Inflight) = None
completed_at kind Config = None
completed_at kind (Metadata at other completed) = None
completed_at kind (Base part shard upto by) = None
completed_at kind (Log part shard at) = None

-- the instant of an object of any action
abbrev pub instant_of : ObjectName → Option ℕ
instant_of (Timeline at other state) = Some at
instant_of Config = None
instant_of (Metadata at other completed) = None
instant_of (Base part shard upto by) = None
instant_of (Log part shard at) = None

-- it is this instant
abbrev pub is_at : ℕ → Option ℕ → Bool
is_at q at = option_map_or (λ n. nat_eq n q) at false

abbrev pub begins : ActionKind → ℕ → ObjectName → Bool
begins kind q object = is_at q (begun_at kind object)

abbrev pub completes : ActionKind → ℕ → ObjectName → Bool
completes kind q object = is_at q (completed_at kind object)

-- an action is begun at the instant and not completed
abbrev pub Pends : Stages → ℕ → Type 0
Pends stages at = IsTrue (contains nat_cmp stages.begun at) × (contains nat_cmp stages.completed at ≡ false)

-- the instant is at most the bound, where there is one
abbrev pub IsUpto : Option ℕ → ℕ → Type 0
IsUpto None at = Unit
IsUpto (Some bound) at = at ≤ bound

abbrev pub acts_at : ℕ → ObjectName → Bool
acts_at q object = is_at q (instant_of object)

-- the lesser of two instants, of which each may be missing
abbrev pub lesser : Option ℕ → Option ℕ → Option ℕ
lesser None other = other
lesser (Some one) None = Some one
lesser (Some one) (Some other) = Some (min one other)
