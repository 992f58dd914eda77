-- When a folder opens as a table, and when it is a valid one: its index shows what its commits list, and what they list is there.
use Rattle.std.specs.Prelude.{◌≡◌, ◌⊎◌, ℕ, List, Contains, Some, IsSome, option_and_then}
use Rattle.mx_base.specs.Objects.{IsObjectName, object_path}
use Rattle.mx_base.specs.declared.object_name.ObjectName.{ObjectName}
use Rattle.mx_base.specs.declared.object_name.ObjectName.TheVariants.{Config, Log}
use Rattle.mx_base.specs.declared.part.Part.{Part}
use Rattle.mx_files.specs.Files.{files_map, expected_on}
use Rattle.mx_merge.specs.Merged.{shown_on}
use Rattle.mx_store.specs.Objects.{Objects, at_path}
use Rattle.mx_meta.specs.ShardFiles.{delta_meta_of}
use Rattle.mx_meta.specs.Views.{Bases}
use Rattle.mx_model.specs.Listing.{listed_files}
use Rattle.mx_folder.specs.Named.{object_at, delta_name, IsHidden}
use Rattle.mx_folder.specs.Actions.{IsCompleted, actions_upto}
use Rattle.mx_folder.specs.Slices.{slice_at}
use Rattle.mx_folder.specs.Reading.{Reads, IsAvailable, IsBaseOf, named_bases}
use Rattle.mx_folder.specs.Files.{Lists, HoldsRows}

-- the path is the one of this object, whose bytes are of its kind
pub record IsObjectAt (objects : Objects) (path bytes : List ℕ) : Type 0 where
  pub name : ObjectName
  pub is_name : IsObjectName name
  pub path_is : path ≡ object_path name
  pub reads : Reads objects name bytes

-- the object that names the logs of a completed commit
abbrev pub NeedsDelta : Objects → List ℕ → Type 0
NeedsDelta objects path = (at : ℕ) × IsCompleted objects at × (path ≡ object_path (delta_name at))

-- a log that it names, of a part that can be read
pub record NeedsLog (objects : Objects) (path : List ℕ) : Type 0 where
  pub at : ℕ
  pub completed : IsCompleted objects at
  pub logs : List (List ℕ)
  pub delta : option_and_then delta_meta_of (object_at objects (delta_name at)) ≡ Some logs
  pub among : Contains logs path
  pub part : Part
  pub shard : ℕ
  pub is_name : IsObjectName (Log part shard at)
  pub is_log : path ≡ object_path (Log part shard at)
  pub available : IsAvailable objects part

-- a base that counts, of a part that can be read
pub record NeedsBase (objects : Objects) (path : List ℕ) : Type 0 where
  pub meta : Bases
  pub named : named_bases objects ≡ Some meta
  pub among : Contains meta.bases path
  pub part : Part
  pub is_base : IsBaseOf part path
  pub available : IsAvailable objects part

-- what cannot be missing
abbrev pub IsNeeded : Objects → List ℕ → Type 0
IsNeeded objects path = NeedsDelta objects path ⊎ (NeedsLog objects path ⊎ NeedsBase objects path)

-- what stands at a path below `.hoodie/` is an object of its kind, and what is needed stands
pub record IsSound (objects : Objects) (path : List ℕ) : Type 0 where
  pub object : (bytes : List ℕ) → IsHidden path → at_path objects path ≡ Some bytes → IsObjectAt objects path bytes
  pub present : IsNeeded objects path → IsSome (at_path objects path)

-- the path shows damage
abbrev pub ShowsDamage : Objects → List ℕ → Type 0
ShowsDamage objects path = ¬ (IsSound objects path)

-- the folder is a table without damage
pub record IsOpenable (objects : Objects) : Type 0 where
  pub config : IsSome (object_at objects Config)
  pub sound : (path : List ℕ) → IsSound objects path

-- and at every instant the slice shows on each key what is expected of the files that the commits up to it list; and each file that
-- is listed stands and holds rows of the table's schema
pub record IsValidTable (objects : Objects) : Type 0 where
  pub opens : IsOpenable objects
  pub shows : (at : ℕ) (key : List ℕ) → shown_on key (slice_at objects at) ≡ expected_on key (files_map (listed_files (actions_upto objects at)))
  pub holds : (path : List ℕ) → Lists objects path → HoldsRows objects path
