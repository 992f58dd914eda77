-- For private clauses: what a test says, and the least path at which something is not so.
use Rattle.std.specs.Prelude.{◌≡◌, ◌≢◌, ◌⊎◌, Bool, true, false, List, [], ℕ, Option, Some, None, IsSome, IfSome, Contains, All, if◌then◌else◌, option_and_then}
use Rattle.std.specs.FinMap as finmap
use Rattle.std.specs.Ordering.{nat_cmp, is_lt}
use Rattle.std.specs.Cmp.Lexicographic.{slice_cmp}
use Rattle.std.specs.declared.cmp.Ordering.TheVariants.{Less}
use Rattle.mx_base.specs.Objects.{IsObjectName, object_path}
use Rattle.mx_base.specs.Paths.{commit_instant}
use Rattle.mx_base.specs.declared.object_name.ObjectName.{ObjectName}
use Rattle.mx_base.specs.declared.object_name.ObjectName.TheVariants.{Config, Timeline, Metadata, Base, Log}
use Rattle.mx_base.specs.declared.part.Part.{Part}
use Rattle.mx_meta.specs.ShardFiles.{base_meta_of, delta_meta_of}
use Rattle.mx_meta.specs.Views.{Bases}
use Rattle.mx_props.specs.Config as config
use Rattle.mx_props.specs.Config.{IsConfig, config_text}
use Rattle.mx_store.specs.Objects.{Objects, at_path}
use Rattle.mx_folder.specs.Named.{object_at, delta_name, first_bases}
use Rattle.mx_folder.specs.Reading.{IsAvailable, IsBaseOf, named_bases}
use Rattle.mx_folder.specs.Folder.{IsObjectAt, IsNeeded}
use Rattle.mx_open.specs.declared.context.Context.{Context}

-- the test is true exactly where it is so
abbrev pub Decides : Bool → Type 0 → Type 0
Decides true P = P
Decides false P = ¬ P

-- it is so at each path; or this is the least path in byte order at which it is not
abbrev pub IsLeastOther : (List ℕ → Type 0) → Option (List ℕ) → Type 0
IsLeastOther P None = (path : List ℕ) → P path
IsLeastOther P (Some path) = ¬ (P path) × ((other : List ℕ) → slice_cmp nat_cmp other path ≡ Less → P other)

-- the lesser of two paths, where there are two
abbrev pub lesser : Option (List ℕ) → Option (List ℕ) → Option (List ℕ)
lesser None other = other
lesser (Some path) None = Some path
lesser (Some path) (Some other) = if is_lt (slice_cmp nat_cmp path other) then Some path else Some other

-- a name of a log of the instant
abbrev pub IsLogAt : ℕ → ObjectName → Type 0
IsLogAt t (Log part shard at) = at ≡ t
IsLogAt t Config = ⊥
IsLogAt t (Timeline at kind state) = ⊥
IsLogAt t (Metadata at kind completed) = ⊥
IsLogAt t (Base part shard upto kind) = ⊥

-- what the config and the object of the first base say of the other objects
pub record IsContext (objects : Objects) (context : Context) : Type 0 where
  pub available : (part : Part) → IsAvailable objects part → Contains context.available part
  pub only_available : (part : Part) → Contains context.available part → IsAvailable objects part
  pub bases : (meta : Bases) → named_bases objects ≡ Some meta → meta.bases ≡ context.bases
  pub only_bases : (path : List ℕ) → Contains context.bases path → (meta : Bases) × (named_bases objects ≡ Some meta) × Contains meta.bases path
  pub unread : context.unread ≡ true → ¬ (IfSome (object_at objects first_bases) (λ meta. IsSome (base_meta_of meta)))
  pub read : context.unread ≡ false → IfSome (object_at objects first_bases) (λ meta. IsSome (base_meta_of meta))

-- one of the bases is of the part
abbrev pub HasBaseIn : List (List ℕ) → Part → Type 0
HasBaseIn bases part = (path : List ℕ) × Contains bases path × IsBaseOf part path

-- what stands at the path is an object of its kind
abbrev pub IsFine : Objects → List ℕ → Type 0
IsFine objects path = (bytes : List ℕ) → at_path objects path ≡ Some bytes → IsObjectAt objects path bytes

-- a log of the instant, of a part that can be read
abbrev pub IsReadableLog : Context → ℕ → List ℕ → Type 0
IsReadableLog context at path = (part : Part) × (shard : ℕ) × IsObjectName (Log part shard at) × (path ≡ object_path (Log part shard at)) × Contains context.available part

abbrev pub IsLogIn : List Part → ℕ → ObjectName → Type 0
IsLogIn available t (Log part shard at) = (at ≡ t) × Contains available part
IsLogIn available t Config = ⊥
IsLogIn available t (Timeline at kind state) = ⊥
IsLogIn available t (Metadata at kind completed) = ⊥
IsLogIn available t (Base part shard upto kind) = ⊥

-- a log that the object of a commit's logs names, of a part that can be read
abbrev pub IsLogNeeded : Objects → Context → ℕ → List ℕ → Type 0
IsLogNeeded objects context at path =
    (logs : List (List ℕ)) × (option_and_then delta_meta_of (at_path objects (object_path (delta_name at))) ≡ Some logs) × Contains logs path × IsReadableLog context at path

-- what the commit of the instant needs at the path stands
abbrev pub MeetsCommit : Objects → Context → ℕ → List ℕ → Type 0
MeetsCommit objects context at path = (path ≡ object_path (delta_name at)) ⊎ IsLogNeeded objects context at path → IsSome (at_path objects path)

-- the object at a path is fine, and what it needs at another stands
abbrev pub MeetsObject : Objects → Context → List ℕ → List ℕ → Type 0
MeetsObject objects context path other = (other ≡ path → IsFine objects other) × IfSome (commit_instant path) (λ at. MeetsCommit objects context at other)

-- a base that counts, of a part that can be read
abbrev pub IsReadableBase : Context → List ℕ → Type 0
IsReadableBase context path = (part : Part) × Contains context.available part × IsBaseOf part path

-- what stands at the path is of its kind, and what is needed there stands
abbrev pub IsUnharmed : Objects → List ℕ → Type 0
IsUnharmed objects path = IsFine objects path × (IsNeeded objects path → IsSome (at_path objects path))

-- what is found at the path is added, if anything is
abbrev pub Adds : List ℕ → Option (List ℕ) → Objects → Objects → Type 0
Adds path None old new = new ≡ old
Adds path (Some bytes) old new = new ≡ finmap.insert old path bytes

-- these are the objects of a folder at the first ones of these paths
pub record AreHeld (held objects : Objects) (read paths : List (List ℕ)) : Type 0 where
  pub found : All (λ (path : List ℕ). at_path held path ≡ at_path objects path) read
  pub only : (path bytes : List ℕ) → at_path held path ≡ Some bytes → (at_path objects path ≡ Some bytes) × Contains paths path

-- what the config says, where it reads
abbrev pub IsSaid : Objects → Option config.Config → Type 0
IsSaid objects (Some c) = IsConfig c × (object_at objects Config ≡ Some (config_text c))
IsSaid objects None = (c : config.Config) → IsConfig c → object_at objects Config ≢ Some (config_text c)

-- the parts that it lists, none where it does not read
abbrev pub available_of : Option config.Config → List Part
available_of None = []
available_of (Some c) = c.available

-- these are the bases that count; the object that names them stands and does not read, or not
pub record AreBases (objects : Objects) (paths : List (List ℕ)) (unread : Bool) : Type 0 where
  pub named : (meta : Bases) → named_bases objects ≡ Some meta → meta.bases ≡ paths
  pub only : (path : List ℕ) → Contains paths path → (meta : Bases) × (named_bases objects ≡ Some meta) × Contains meta.bases path
  pub damaged : unread ≡ true → ¬ (IfSome (object_at objects first_bases) (λ meta. IsSome (base_meta_of meta)))
  pub whole : unread ≡ false → IfSome (object_at objects first_bases) (λ meta. IsSome (base_meta_of meta))
