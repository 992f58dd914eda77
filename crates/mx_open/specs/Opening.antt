-- What the opening of a folder finds.
use Rattle.std.specs.Prelude.{◌≡◌, ◌≢◌, ℕ, List, filter, not, Option, Some, None, IsSome, Result, Ok, Err}
use Rattle.std.specs.FinMap as finmap
use Rattle.std.specs.Ordering.{nat_cmp}
use Rattle.std.specs.Cmp.Lexicographic.{slice_cmp}
use Rattle.std.specs.declared.cmp.Ordering.TheVariants.{Less}
use Rattle.mx_base.specs.declared.object_name.ObjectName.TheVariants.{Config}
use Rattle.mx_props.specs.Config as config
use Rattle.mx_props.specs.Config.{config_text, IsConfig}
use Rattle.mx_props.specs.Version.{GivesAnother}
use Rattle.mx_store.specs.Calls.{Rose}
use Rattle.mx_store.specs.Objects.{Objects}
use Rattle.mx_store.specs.declared.store.StoreError.{StoreError}
use Rattle.mx_store.specs.declared.store.StoreError.TheVariants as store
use Rattle.mx_folder.specs.Named.{object_at, is_hidden}
use Rattle.mx_folder.specs.Folder.{IsSound, ShowsDamage, IsOpenable}
use Rattle.mx_folder.specs.Pending.{ArePending}
use Rattle.mx_groups.specs.Groups.{AreCommits}
use Rattle.mx_open.specs.Deciding.{IsLeastOther, IsUnharmed}
use Rattle.mx_open.specs.Leaving.{AreNamesOf}
use Rattle.mx_open.specs.declared.error.ReadError.{ReadError}
use Rattle.mx_open.specs.declared.error.ReadError.TheVariants.{NotATable, Version, Damaged, StoreFault, NoMemory}
use Rattle.mx_open.specs.declared.folder.Folder.{Folder}

-- what the opening gives of a folder: what its config says, the paths below `.hoodie/` and the others, both in byte order, its
-- pending commits and its completed ones
pub record IsFolderOf (objects : Objects) (folder : Folder) : Type 0 where
  pub config : object_at objects Config ≡ Some (config_text folder.config)
  pub names : folder.names ≡ filter is_hidden (finmap.keys objects)
  pub others : folder.others ≡ filter (λ path. not (is_hidden path)) (finmap.keys objects)
  pub pending : ArePending objects folder.pending
  pub commits : AreCommits objects folder.commits

-- the config is of another version
abbrev pub IsOfVersion : Objects → ℕ → Type 0
IsOfVersion objects found = (bytes : List ℕ) × (object_at objects Config ≡ Some bytes) × GivesAnother bytes found

-- the config stands and is of no other version
pub record IsCurrent (objects : Objects) : Type 0 where
  pub stands : IsSome (object_at objects Config)
  pub version : (found : ℕ) → ¬ (IsOfVersion objects found)

-- the path shows damage, and none before it in byte order does
pub record IsLeastDamaged (objects : Objects) (path : List ℕ) : Type 0 where
  pub damaged : ShowsDamage objects path
  pub least : (other : List ℕ) → slice_cmp nat_cmp other path ≡ Less → IsSound objects other

-- a folder is read where it opens; else the first cause is told: no config, another version, damage
abbrev pub Opens : Objects → Result Folder ReadError → Type 0
Opens objects (Ok folder) = IsOpenable objects × IsFolderOf objects folder
Opens objects (Err NotATable) = object_at objects Config ≡ None
Opens objects (Err (Version found)) = IsOfVersion objects found
Opens objects (Err (Damaged path)) = IsCurrent objects × IsLeastDamaged objects path
Opens objects (Err StoreFault) = Unit {0}
Opens objects (Err NoMemory) = Unit {0}

-- a fault only where the count rose, and any other answer leaves it
abbrev pub CountsRead : {T : Type 0} → ℕ → ℕ → Result T ReadError → Type 0
CountsRead before now (Ok x) = now ≡ before
CountsRead before now (Err NotATable) = now ≡ before
CountsRead before now (Err (Version found)) = now ≡ before
CountsRead before now (Err (Damaged path)) = now ≡ before
CountsRead before now (Err StoreFault) = Rose before now
CountsRead before now (Err NoMemory) = now ≡ before

-- what a fault of the store is to a reader
abbrev pub read_fault : StoreError → ReadError
read_fault store.Failed = StoreFault
read_fault store.NoMemory = NoMemory

-- ---- for private clauses

-- what is read of the config; a config that does not read is damage, which is told later
abbrev pub SaysConfig : Objects → Result (Option config.Config) ReadError → Type 0
SaysConfig objects (Ok (Some c)) = IsCurrent objects × IsConfig c × (object_at objects Config ≡ Some (config_text c))
SaysConfig objects (Ok None) = IsCurrent objects × ((c : config.Config) → IsConfig c → object_at objects Config ≢ Some (config_text c))
SaysConfig objects (Err NotATable) = object_at objects Config ≡ None
SaysConfig objects (Err (Version found)) = IsOfVersion objects found
SaysConfig objects (Err (Damaged path)) = ⊥
SaysConfig objects (Err StoreFault) = ⊥
SaysConfig objects (Err NoMemory) = Unit {0}

-- what is found in the objects below `.hoodie/`
abbrev pub OpensHeld : Objects → List (List ℕ) → List (List ℕ) → Result Folder ReadError → Type 0
OpensHeld held names others (Ok folder) =
    ((path : List ℕ) → IsUnharmed held path) × IsCurrent held × (object_at held Config ≡ Some (config_text folder.config)) × (folder.names ≡ names) × (folder.others ≡ others)
    × ((objects : Objects) → AreNamesOf objects held names → ArePending objects folder.pending)
    × ((objects : Objects) → AreNamesOf objects held names → AreCommits objects folder.commits)
OpensHeld held names others (Err NotATable) = object_at held Config ≡ None
OpensHeld held names others (Err (Version found)) = IsOfVersion held found
OpensHeld held names others (Err (Damaged path)) = IsCurrent held × IsLeastOther (IsUnharmed held) (Some path)
OpensHeld held names others (Err StoreFault) = ⊥
OpensHeld held names others (Err NoMemory) = Unit {0}
