-- For private clauses: how the names of a folder tell its pending commits, and what these left.
use Rattle.std.specs.Prelude.{◌≡◌, ◌≢◌, ◌⊎◌, ℕ, ◌&&◌, ◌||◌, not, nat_eq, Bool, false, List, [], ◌∷◌, ◌++◌, filter, IsTrue, Option, Some, None, unwrap_or, option_and_then}
use Rattle.std.specs.BTreeMap as tree
use Rattle.std.specs.BTreeMap.{BTreeMap}
use Rattle.std.specs.BTreeSet.{BTreeSet, contains}
use Rattle.std.specs.FinMap as finmap
use Rattle.std.specs.Option.{option_map_or}
use Rattle.std.specs.Ordering.{nat_cmp}
use Rattle.std.specs.Str.{bytes_eq}
use Rattle.mx_base.specs.Objects.{is_object_name, object_path}
use Rattle.mx_base.specs.declared.object_name.ActionKind.TheVariants as action
use Rattle.mx_base.specs.declared.object_name.ActionState.TheVariants.{Requested, Inflight, Completed}
use Rattle.mx_base.specs.declared.object_name.ObjectName.{ObjectName}
use Rattle.mx_base.specs.declared.object_name.ObjectName.TheVariants.{Config, Timeline, Metadata, Base, Log}
use Rattle.mx_meta.specs.PathLists.{path_list_of}
use Rattle.mx_meta.specs.declared.path_list.PathList.{PathList}
use Rattle.mx_store.specs.Objects.{Objects, at_path}
use Rattle.mx_folder.specs.Named.{object_at, is_hidden}
use Rattle.mx_folder.specs.Pending.{requested_name, inflight_name, ArePicked}
use Rattle.mx_folder.specs.Reading.{IsLogOf}
use Rattle.mx_folder.specs.declared.pending.Pending.{Pending}

-- it is this instant
abbrev pub is_at : ℕ → Option ℕ → Bool
is_at q at = option_map_or (λ n. nat_eq n q) at false

-- the path is the one of the object that requests the commit, or of the one that lists its files
abbrev pub begins : ℕ → List ℕ → Bool
begins q path = is_object_name (requested_name q) && (bytes_eq path (object_path (requested_name q)) || bytes_eq path (object_path (inflight_name q)))

-- and the commit is not among the completed ones
abbrev pub is_pending_by : BTreeSet ℕ → ℕ → List ℕ → Bool
is_pending_by completed q path = begins q path && not (contains nat_cmp completed q)

-- the instant of the commit whose object before its completion has the name
abbrev pub begun_in : ObjectName → Option ℕ
begun_in (Timeline at action.Commit Requested) = Some at
begun_in (Timeline at action.Commit Inflight) = Some at
begun_in (Timeline at action.Commit Completed) = None
begun_in (Timeline at action.Clean state) = None
begun_in (Timeline at action.Rollback state) = None
begun_in (Timeline at action.Indexing state) = None
begun_in Config = None
begun_in (Metadata at kind completed) = None
begun_in (Base part shard upto kind) = None
begun_in (Log part shard at) = None

-- the instant of the log that has the name
abbrev pub logged_in : ObjectName → Option ℕ
logged_in (Log part shard at) = Some at
logged_in Config = None
logged_in (Timeline at kind state) = None
logged_in (Metadata at kind completed) = None
logged_in (Base part shard upto kind) = None

-- these are the paths below `.hoodie/`, and what is held is what the objects say of each name
pub record AreNamesOf (objects held : Objects) (names : List (List ℕ)) : Type 0 where
  pub all : names ≡ filter is_hidden (finmap.keys objects)
  pub same : (name : ObjectName) → object_at held name ≡ object_at objects name

-- the paths under an instant
abbrev pub logs_in : BTreeMap ℕ (List (List ℕ)) → ℕ → List (List ℕ)
logs_in logs at = unwrap_or (tree.get nat_cmp logs at) []

-- the element is picked where it holds of it
abbrev pub PicksNext : (List ℕ → Type 0) → List ℕ → List (List ℕ) → List (List ℕ) → Type 0
PicksNext P x old new = (P x × (new ≡ old ++ x ∷ [])) ⊎ (¬ (P x) × (new ≡ old))

-- the path is added under the instant, and under no other
abbrev pub AddsAt : ℕ → List ℕ → BTreeMap ℕ (List (List ℕ)) → BTreeMap ℕ (List (List ℕ)) → ℕ → Type 0
AddsAt at path old new q = ((q ≡ at) × (logs_in new q ≡ logs_in old q ++ path ∷ [])) ⊎ ((q ≢ at) × (logs_in new q ≡ logs_in old q))

-- under each of the instants stand its logs among these paths, in their order
abbrev pub AreLogged : BTreeSet ℕ → List (List ℕ) → BTreeMap ℕ (List (List ℕ)) → Type 0
AreLogged instants names logs = (at : ℕ) → IsTrue (contains nat_cmp instants at) → ArePicked (IsLogOf at) names (logs_in logs at)

-- the paths that a list of files has, none where it does not read
abbrev pub files_in : List ℕ → List (List ℕ)
files_in bytes = option_map_or (λ (list : PathList). list.paths) (path_list_of bytes) []

-- the paths that the list of files of a commit has, none where it is absent or does not read
abbrev pub files_at : Objects → ℕ → List (List ℕ)
files_at held at = option_map_or (λ (list : PathList). list.paths) (option_and_then path_list_of (at_path held (object_path (inflight_name at)))) []

-- what the commit of the instant left
abbrev pub leftover : Objects → BTreeMap ℕ (List (List ℕ)) → ℕ → Pending
leftover held logs at = record { at = at; logs = logs_in logs at; files = files_at held at }
