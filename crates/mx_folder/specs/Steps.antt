-- Which changes of one object leave a table valid.
use Rattle.std.specs.Prelude.{◌≡◌, ◌≢◌, ℕ, ◌<◌, List, ◌++◌, All, Some, None, IsSome, fold}
use Rattle.std.specs.Option.{option_to_list}
use Rattle.mx_base.specs.Objects.{IsObjectName, object_path}
use Rattle.mx_base.specs.declared.entry.FileAt.{FileAt}
use Rattle.mx_base.specs.declared.object_name.ActionKind.TheVariants as action
use Rattle.mx_base.specs.declared.object_name.ActionState.TheVariants.{Requested, Inflight, Completed}
use Rattle.mx_base.specs.declared.object_name.MetadataActionKind.TheVariants as metadata
use Rattle.mx_base.specs.declared.object_name.ObjectName.{ObjectName}
use Rattle.mx_base.specs.declared.object_name.ObjectName.TheVariants.{Config, Timeline, Metadata, Base, Log}
use Rattle.mx_store.specs.Objects.{Objects, at_path}
use Rattle.mx_meta.specs.CommitText.{commit_meta_of}
use Rattle.mx_meta.specs.ShardFiles.{delta_meta_of}
use Rattle.mx_meta.specs.declared.commit_meta.CommitMeta.{CommitMeta}
use Rattle.mx_model.specs.Listing.{files_of}
use Rattle.mx_files.specs.Files.{FilesMap, with_file, expected_on}
use Rattle.mx_merge.specs.Shown.{shown}
use Rattle.mx_merge.specs.Merged.{payloads_on_key}
use Rattle.mx_folder.specs.Named.{object_at, commit_name, delta_name, log_name, first_base, first_bases, IsHidden}
use Rattle.mx_folder.specs.Actions.{IsCompleted}
use Rattle.mx_folder.specs.Slices.{entries_at}
use Rattle.mx_folder.specs.Reading.{NamesItsFiles}
use Rattle.mx_folder.specs.Files.{Lists, HoldsRows, place_of}
use Rattle.mx_folder.specs.Folder.{IsObjectAt, IsNeeded}

-- the folders differ at this path at most
abbrev pub DifferAt : List ℕ → Objects → Objects → Type 0
DifferAt path old new = (other : List ℕ) → other ≢ path → at_path new other ≡ at_path old other

-- nothing that counts rests on the path: it is neither the config nor the first base nor the object that names it, no completed
-- commit is told by it, no log of one stands there, it is not needed, and no commit lists a file there
pub record IsLoose (objects : Objects) (path : List ℕ) : Type 0 where
  pub config : path ≢ object_path Config
  pub base : path ≢ object_path first_base
  pub bases : path ≢ object_path first_bases
  pub commits : (at : ℕ) → IsObjectName (commit_name at) → path ≢ object_path (commit_name at)
  pub logs : (at : ℕ) → IsCompleted objects at → path ≢ object_path (log_name at)
  pub unneeded : ¬ (IsNeeded objects path)
  pub unlisted : ¬ (Lists objects path)

-- what then stands there is nothing, or an object of its kind, or no object of the table's own
abbrev pub MayStand : Objects → Objects → List ℕ → Type 0
MayStand old new path = (bytes : List ℕ) → IsHidden path → at_path new path ≡ Some bytes → IsObjectAt old path bytes

-- the commit of the instant may be completed by this object: it is the newest one, its logs stand, over what is expected of any
-- files its log shows what is expected of these and the files that the object lists, and these hold rows of the table's schema
pub record MayComplete (objects : Objects) (at : ℕ) (bytes : List ℕ) : Type 0 where
  pub is_name : IsObjectName (commit_name at)
  pub absent : at_path objects (object_path (commit_name at)) ≡ None
  pub newest : (other : ℕ) → IsCompleted objects other → other < at
  pub meta : CommitMeta
  pub reads : commit_meta_of bytes ≡ Some meta
  pub names : NamesItsFiles at meta
  pub delta : List ℕ
  pub delta_at : object_at objects (delta_name at) ≡ Some delta
  pub logs : List (List ℕ)
  pub delta_reads : delta_meta_of delta ≡ Some logs
  pub stand : All (λ path. IsSome (at_path objects path)) logs
  pub logged : (files : FilesMap) (key : List ℕ) → shown (option_to_list (expected_on key files) ++ payloads_on_key key (entries_at objects at)) ≡ expected_on key (fold with_file files (files_of (record { at = at; meta = meta })))
  pub held : All (λ (file : FileAt). HoldsRows objects (place_of file)) (files_of (record { at = at; meta = meta }))

-- an object that a commit of the instant makes before the one that completes it
abbrev pub IsMadeBefore : ℕ → ObjectName → Type 0
IsMadeBefore t Config = ⊥
IsMadeBefore t (Timeline at action.Commit Requested) = at ≡ t
IsMadeBefore t (Timeline at action.Commit Inflight) = at ≡ t
IsMadeBefore t (Timeline at action.Commit Completed) = ⊥
IsMadeBefore t (Timeline at action.Clean state) = ⊥
IsMadeBefore t (Timeline at action.Rollback state) = ⊥
IsMadeBefore t (Timeline at action.Indexing state) = ⊥
IsMadeBefore t (Metadata at metadata.DeltaCommit completed) = at ≡ t
IsMadeBefore t (Metadata at metadata.Indexing completed) = ⊥
IsMadeBefore t (Metadata at metadata.Compaction completed) = ⊥
IsMadeBefore t (Metadata at metadata.Clean completed) = ⊥
IsMadeBefore t (Base part shard upto kind) = ⊥
IsMadeBefore t (Log part shard at) = at ≡ t
