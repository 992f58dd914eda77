-- What the names of a table's objects say of its actions, after the timeline of Hudi's technical specification.
use Rattle.std.specs.Prelude.{◌≡◌, ◌≢◌, ◌⊎◌, ℕ, ◌≤◌, List, ◌∷◌, ◌++◌, length, All, Contains, Option, Some, None}
use Rattle.std.specs.List.Sorted.{IsStrictlySortedBy}
use Rattle.std.specs.Ordering.{nat_cmp}
use Rattle.mx_base.specs.Objects.{IsObjectName, object_path}
use Rattle.mx_base.specs.declared.object_name.ActionKind.{ActionKind}
use Rattle.mx_base.specs.declared.object_name.ActionKind.TheVariants.{Commit, Clean}
use Rattle.mx_base.specs.declared.object_name.ActionState.{ActionState}
use Rattle.mx_base.specs.declared.object_name.ActionState.TheVariants.{Completed}
use Rattle.mx_base.specs.declared.object_name.ObjectName.{ObjectName}
use Rattle.mx_base.specs.declared.object_name.ObjectName.TheVariants.{Timeline}

-- the path is the one of this name
abbrev pub IsNameOf : List ℕ → ObjectName → Type 0
IsNameOf path name = IsObjectName name × (path ≡ object_path name)

-- the path is the name of an object
abbrev pub IsObjectPath : List ℕ → Type 0
IsObjectPath path = (name : ObjectName) × IsNameOf path name

-- among the names is the one of an action in a state
abbrev pub Stands : List (List ℕ) → ActionKind → ActionState → ℕ → Type 0
Stands names kind state at = IsObjectName (Timeline at kind state) × Contains names (object_path (Timeline at kind state))

-- an action of the kind has an object at the instant
abbrev pub IsBegun : List (List ℕ) → ActionKind → ℕ → Type 0
IsBegun names kind at = (state : ActionState) × Stands names kind state at

-- it is begun, and its completed object is not there
abbrev pub IsLeftPending : List (List ℕ) → ActionKind → ℕ → Type 0
IsLeftPending names kind at = IsBegun names kind at × (Stands names kind Completed at → ⊥)

-- a commit or a clean is completed at the instant
abbrev pub IsCompleted : List (List ℕ) → ℕ → Type 0
IsCompleted names at = Stands names Commit Completed at ⊎ Stands names Clean Completed at

-- a commit or a clean is pending at the instant
abbrev pub IsUnfinished : List (List ℕ) → ℕ → Type 0
IsUnfinished names at = IsLeftPending names Commit at ⊎ IsLeftPending names Clean at

-- any action is pending at the instant
abbrev pub IsPending : List (List ℕ) → ℕ → Type 0
IsPending names at = (kind : ActionKind) × IsLeftPending names kind at

-- any action has an object at the instant
abbrev pub HasObject : List (List ℕ) → ℕ → Type 0
HasObject names at = (kind : ActionKind) × IsBegun names kind at

-- no commit and no clean is pending below the instant
abbrev pub IsSettled : List (List ℕ) → ℕ → Type 0
IsSettled names at = (other : ℕ) → IsUnfinished names other → at ≤ other

-- the greatest instant of which something holds, and 0 where there is none
pub record IsGreatest (P : ℕ → Type 0) (greatest : ℕ) : Type 0 where
  pub holds : greatest ≢ 0 → P greatest
  pub above : (at : ℕ) → P at → at ≤ greatest

-- the least instant of which something holds, and none where it holds of none
abbrev pub IsLeast : (ℕ → Type 0) → Option ℕ → Type 0
IsLeast P None = (at : ℕ) → P at → ⊥
IsLeast P (Some least) = P least × ((at : ℕ) → P at → least ≤ at)

-- up to where the table may be folded
abbrev pub IsFrontier : List (List ℕ) → ℕ → Type 0
IsFrontier names frontier = IsGreatest (λ at. IsCompleted names at × IsSettled names at) frontier

-- the newest completed commit or clean
abbrev pub IsNewest : List (List ℕ) → ℕ → Type 0
IsNewest names newest = IsGreatest (IsCompleted names) newest

-- so many instants have an object
pub record IsInstantCount (names : List (List ℕ)) (count : ℕ) : Type 0 where
  pub instants : List ℕ
  pub rising : IsStrictlySortedBy nat_cmp instants
  pub all : (at : ℕ) → HasObject names at → Contains instants at
  pub only : (at : ℕ) → Contains instants at → HasObject names at
  pub count_is : count ≡ length instants

-- the first name that is no object's
pub record IsFirstBad (names : List (List ℕ)) (name : List ℕ) : Type 0 where
  pub front : List (List ℕ)
  pub rest : List (List ℕ)
  pub splits : names ≡ front ++ name ∷ rest
  pub good : All IsObjectPath front
  pub bad : IsObjectPath name → ⊥
