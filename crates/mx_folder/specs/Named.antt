-- The objects of a folder by their names.
use Rattle.std.specs.Prelude.{◌≡◌, ℕ, Bool, true, List, Option, None, if◌then◌else◌, codes, nat_eq}
use Rattle.std.specs.List.{starts_with}
use Rattle.mx_base.specs.Objects.{is_object_name, object_path}
use Rattle.mx_base.specs.declared.object_name.ActionKind.TheVariants as action
use Rattle.mx_base.specs.declared.object_name.ActionState.TheVariants.{Completed}
use Rattle.mx_base.specs.declared.object_name.MetadataActionKind.TheVariants as metadata
use Rattle.mx_base.specs.declared.object_name.BaseKind.TheVariants as base
use Rattle.mx_base.specs.declared.object_name.ObjectName.{ObjectName}
use Rattle.mx_base.specs.declared.object_name.ObjectName.TheVariants.{Timeline, Metadata, Base, Log}
use Rattle.mx_base.specs.declared.part.Part.TheVariants.{Files}
use Rattle.mx_store.specs.Objects.{Objects, at_path}

-- the bytes of the object of a name
unfoldable pub object_at : Objects → ObjectName → Option (List ℕ)
object_at objects name = if is_object_name name then at_path objects (object_path name) else None

-- the object of a completed commit
abbrev pub commit_name : ℕ → ObjectName
commit_name at = Timeline at action.Commit Completed

-- the object that names the logs of an action
abbrev pub delta_name : ℕ → ObjectName
delta_name at = Metadata at metadata.DeltaCommit true

-- the log of the files partition
abbrev pub log_name : ℕ → ObjectName
log_name at = Log Files 0 at

-- the base that a table begins with
abbrev pub first_base : ObjectName
first_base = Base Files 0 0 base.Indexing

-- the object that names it
abbrev pub first_bases : ObjectName
first_bases = Metadata 0 metadata.Indexing true

-- a path below `.hoodie/`
abbrev pub is_hidden : List ℕ → Bool
is_hidden path = starts_with nat_eq path (codes ".hoodie/")

abbrev pub IsHidden : List ℕ → Type 0
IsHidden path = is_hidden path ≡ true
