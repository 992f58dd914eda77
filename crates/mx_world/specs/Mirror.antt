-- What is known of a folder without its bytes.
use Rattle.std.specs.Prelude.{◌≡◌, ◌≢◌, ℕ, ◌≤◌, ◌&&◌, Bool, false, List, Some, is_some}
use Rattle.std.specs.Option.{option_map_or}
use Rattle.std.specs.BTreeSet.{contains}
use Rattle.std.specs.FinMap as finmap
use Rattle.std.specs.Ordering.{nat_cmp, eq_by_cmp}
use Rattle.std.specs.Cmp.Lexicographic.{slice_cmp}
use Rattle.mx_base.specs.Objects.{object_path}
use Rattle.mx_base.specs.Paths.{commit_instant}
use Rattle.mx_base.specs.declared.object_name.ObjectName.TheVariants.{Config}
use Rattle.mx_store.specs.declared.change.Change.{Change}
use Rattle.mx_store.specs.declared.change.Change.TheVariants.{Create, Put, Delete}
use Rattle.mx_store.specs.Objects.{Objects, at_path}
use Rattle.mx_props.specs.Config.{config_text}
use Rattle.mx_folder.specs.Actions.{IsCompleted}
use Rattle.mx_folder.specs.Named.{object_at, commit_name, is_hidden}
use Rattle.mx_groups.specs.Groups.{AreGroupsOf}
use Rattle.mx_world.specs.declared.mirror.Mirror.{Mirror}

-- the mirror says what the folder holds: its config, the names below `.hoodie/`, the completed commits, and the groups of each
pub record IsMirrorOf (objects : Objects) (mirror : Mirror) : Type 0 where
  pub config : at_path objects (object_path Config) ≡ Some (config_text mirror.config)
  pub names : (path : List ℕ) → contains (slice_cmp nat_cmp) mirror.names path ≡ (is_hidden path && is_some (at_path objects path))
  pub completed : (at : ℕ) → contains nat_cmp mirror.completed at ≡ is_some (object_at objects (commit_name at))
  pub groups : AreGroupsOf objects mirror.groups

-- the greatest instant of a completed commit, 0 where there is none
pub record IsNewest (objects : Objects) (at : ℕ) : Type 0 where
  pub counts : at ≢ 0 → IsCompleted objects at
  pub above : (other : ℕ) → IsCompleted objects other → other ≤ at

-- the path is the one of the commit of the instant
abbrev pub is_commit_at : List ℕ → ℕ → Bool
is_commit_at path at = option_map_or (λ other. eq_by_cmp nat_cmp other at) (commit_instant path) false

-- the path is the other one, and below `.hoodie/`
abbrev pub is_name_at : List ℕ → List ℕ → Bool
is_name_at path other = is_hidden path && eq_by_cmp (slice_cmp nat_cmp) path other

-- the path is not the config's
abbrev pub IsNoConfig : List ℕ → Type 0
IsNoConfig path = path ≢ object_path Config

-- a create or a delete, of another object than the config
abbrev pub IsPlain : Change → Type 0
IsPlain (Create path bytes) = IsNoConfig path
IsPlain (Put path bytes) = ⊥
IsPlain (Delete path) = IsNoConfig path

-- the mirror is ready for the change: what is to be made is in it already, and what is to be taken away still is
abbrev pub IsReadyFor : Change → Objects → Mirror → Type 0
IsReadyFor (Create path bytes) objects mirror = IsMirrorOf (finmap.insert objects path bytes) mirror
IsReadyFor (Put path bytes) objects mirror = ⊥
IsReadyFor (Delete path) objects mirror = IsMirrorOf objects mirror
