-- What a commit that was begun and is not completed leaves, and the changes that take it away.
use Rattle.std.specs.Prelude.{◌≡◌, ◌⊎◌, ℕ, false, List, [], ◌∷◌, ◌++◌, map, All, Contains, IsSome, is_some, option_and_then, if◌then◌else◌}
use Rattle.std.specs.FinMap as finmap
use Rattle.std.specs.List.{flat_map}
use Rattle.std.specs.List.Sorted.{IsStrictlySortedBy}
use Rattle.std.specs.Option.{option_map_or}
use Rattle.std.specs.Ordering.{nat_cmp}
use Rattle.mx_base.specs.Objects.{object_path}
use Rattle.mx_base.specs.declared.object_name.ActionKind.TheVariants as action
use Rattle.mx_base.specs.declared.object_name.ActionState.TheVariants.{Requested, Inflight}
use Rattle.mx_base.specs.declared.object_name.MetadataActionKind.TheVariants as metadata
use Rattle.mx_base.specs.declared.object_name.ObjectName.{ObjectName}
use Rattle.mx_base.specs.declared.object_name.ObjectName.TheVariants.{Timeline, Metadata}
use Rattle.mx_meta.specs.PathLists.{path_list_of}
use Rattle.mx_meta.specs.declared.path_list.PathList.{PathList}
use Rattle.mx_store.specs.Objects.{Objects, at_path}
use Rattle.mx_store.specs.declared.change.Change.{Change}
use Rattle.mx_store.specs.declared.change.Change.TheVariants.{Delete}
use Rattle.mx_folder.specs.Named.{object_at, delta_name}
use Rattle.mx_folder.specs.Actions.{IsCompleted}
use Rattle.mx_folder.specs.Reading.{IsLogOf}
use Rattle.mx_folder.specs.declared.pending.Pending.{Pending}

-- the object that requests a commit
abbrev pub requested_name : ℕ → ObjectName
requested_name at = Timeline at action.Commit Requested

-- the object that lists the files that a commit will write
abbrev pub inflight_name : ℕ → ObjectName
inflight_name at = Timeline at action.Commit Inflight

-- the object that tells that the logs of a commit are being written
abbrev pub delta_mark : ℕ → ObjectName
delta_mark at = Metadata at metadata.DeltaCommit false

-- the commit of the instant is begun: its request or its list of files stands
abbrev pub IsBegun : Objects → ℕ → Type 0
IsBegun objects at = IsSome (object_at objects (requested_name at)) ⊎ IsSome (object_at objects (inflight_name at))

-- it is begun and not completed
abbrev pub IsPending : Objects → ℕ → Type 0
IsPending objects at = IsBegun objects at × ¬ (IsCompleted objects at)

-- the paths that its list of files has, none where that is absent or does not read
unfoldable pub inflight_files : Objects → ℕ → List (List ℕ)
inflight_files objects at = option_map_or (λ (list : PathList). list.paths) (option_and_then path_list_of (object_at objects (inflight_name at))) []

-- the second list has the elements of the first of which it holds, in their order
abbrev pub ArePicked : (List ℕ → Type 0) → List (List ℕ) → List (List ℕ) → Type 0
ArePicked P [] picked = picked ≡ []
ArePicked P (x ∷ xs) picked = (P x × ((rest : List (List ℕ)) × (picked ≡ x ∷ rest) × ArePicked P xs rest)) ⊎ (¬ (P x) × ArePicked P xs picked)

-- what a pending commit left: its logs that stand, in byte order, and the files that it lists
pub record IsLeft (objects : Objects) (left : Pending) : Type 0 where
  pub pending : IsPending objects left.at
  pub logs : ArePicked (IsLogOf left.at) (finmap.keys objects) left.logs
  pub files : left.files ≡ inflight_files objects left.at

abbrev pub instants_of : List Pending → List ℕ
instants_of pendings = map (λ (left : Pending). left.at) pendings

-- the pending commits of a folder, by rising instant, with what each left
pub record ArePending (objects : Objects) (pendings : List Pending) : Type 0 where
  pub rising : IsStrictlySortedBy nat_cmp (instants_of pendings)
  pub each : All (IsLeft objects) pendings
  pub all : (at : ℕ) → IsPending objects at → Contains (instants_of pendings) at

-- the paths of what a commit makes before its completion, in the order in which they are taken away
abbrev pub left_by : Pending → List (List ℕ)
left_by left =
    left.logs
    ++ object_path (delta_name left.at)
    ∷ object_path (delta_mark left.at)
    ∷ (left.files ++ object_path (inflight_name left.at) ∷ object_path (requested_name left.at) ∷ [])

-- the changes that deletes of these paths in turn make: none where nothing stands any more
abbrev pub deletes : Objects → List (List ℕ) → List Change
deletes objects [] = []
deletes objects (path ∷ paths) = if is_some (at_path objects path) then Delete path ∷ deletes (finmap.remove objects path) paths else deletes objects paths

-- the changes that take away what pending commits left
abbrev pub recovery_changes : Objects → List Pending → List Change
recovery_changes objects pendings = deletes objects (flat_map left_by pendings)
