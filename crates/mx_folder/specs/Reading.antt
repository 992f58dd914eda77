-- What the bytes of each object are to be.
use Rattle.std.specs.Prelude.{◌≡◌, ℕ, Bool, true, false, List, [], ◌∷◌, All, Contains, Option, Some, IsSome, IfSome, option_and_then}
use Rattle.std.specs.List.{AllByRecursion}
use Rattle.serde_json.specs.Data.{object, no_members}
use Rattle.mx_base.specs.DataFiles.{IsDataFileAt}
use Rattle.mx_base.specs.Objects.{IsObjectName, object_path}
use Rattle.mx_base.specs.Paths.{data_path}
use Rattle.mx_base.specs.declared.data_file.DataFile.{DataFile}
use Rattle.mx_base.specs.declared.entry.Entry.{Entry}
use Rattle.mx_base.specs.declared.object_name.ActionKind.TheVariants as action
use Rattle.mx_base.specs.declared.object_name.ActionState.{ActionState}
use Rattle.mx_base.specs.declared.object_name.ActionState.TheVariants.{Requested, Inflight, Completed}
use Rattle.mx_base.specs.declared.object_name.BaseKind.{BaseKind}
use Rattle.mx_base.specs.declared.object_name.BaseKind.TheVariants as base
use Rattle.mx_base.specs.declared.object_name.MetadataActionKind.TheVariants as metadata
use Rattle.mx_base.specs.declared.object_name.ObjectName.{ObjectName}
use Rattle.mx_base.specs.declared.object_name.ObjectName.TheVariants.{Config, Timeline, Metadata, Base, Log}
use Rattle.mx_base.specs.declared.part.Part.{Part}
use Rattle.mx_store.specs.Objects.{Objects}
use Rattle.mx_meta.specs.CommitText.{commit_meta_of}
use Rattle.mx_meta.specs.Fields.{object_of}
use Rattle.mx_meta.specs.PathLists.{path_list_of}
use Rattle.mx_meta.specs.ShardFiles.{delta_meta_of, base_meta_of}
use Rattle.mx_meta.specs.Views.{Bases}
use Rattle.mx_meta.specs.declared.commit_meta.CommitMeta.{CommitMeta}
use Rattle.mx_meta.specs.declared.commit_meta.PartitionStats.{PartitionStats}
use Rattle.mx_meta.specs.declared.commit_meta.WriteStat.{WriteStat}
use Rattle.mx_meta.specs.declared.path_list.PathList.{PathList}
use Rattle.mx_merge.specs.Merged.{IsRead}
use Rattle.mx_props.specs.Config as config
use Rattle.mx_props.specs.Config.{IsConfig, config_text}
use Rattle.mx_folder.specs.Named.{object_at, first_base, first_bases}
use Rattle.mx_folder.specs.Slices.{base_of, log_of}

-- a JSON object without fields
abbrev pub IsEmptyObject : List ℕ → Type 0
IsEmptyObject bytes = object_of bytes ≡ Some (object no_members)

-- the path of a data file of the instant
abbrev pub IsDataFileOf : ℕ → List ℕ → Type 0
IsDataFileOf at path = (file : DataFile) × IsDataFileAt path file × (file.at ≡ at)

-- each entry names the data file that its partition and its file id have at the instant
abbrev pub NamesItsFiles : ℕ → CommitMeta → Type 0
NamesItsFiles at meta = All (λ (p : PartitionStats). All (λ (s : WriteStat). s.path ≡ data_path p.partition s.file_id at) p.stats) meta.partitions

-- the path of a log of the instant
abbrev pub IsLogOf : ℕ → List ℕ → Type 0
IsLogOf at path = (part : Part) × (shard : ℕ) × IsObjectName (Log part shard at) × (path ≡ object_path (Log part shard at))

-- the object of a commit: a mark, then the paths that it will write, then what it wrote
abbrev pub ReadsAsCommit : ℕ → ActionState → List ℕ → Type 0
ReadsAsCommit at Requested bytes = IsEmptyObject bytes
ReadsAsCommit at Inflight bytes = (list : PathList) × (path_list_of bytes ≡ Some list) × All (IsDataFileOf at) list.paths
ReadsAsCommit at Completed bytes = (meta : CommitMeta) × (commit_meta_of bytes ≡ Some meta) × NamesItsFiles at meta

-- the object of a commit's logs: a mark, then the logs that it wrote
abbrev pub ReadsAsDelta : ℕ → Bool → List ℕ → Type 0
ReadsAsDelta at false bytes = IsEmptyObject bytes
ReadsAsDelta at true bytes = (logs : List (List ℕ)) × (delta_meta_of bytes ≡ Some logs) × All (IsLogOf at) logs

-- the object of the first base: a mark, then the one base
abbrev pub ReadsAsFirst : Bool → List ℕ → Type 0
ReadsAsFirst false bytes = IsEmptyObject bytes
ReadsAsFirst true bytes = base_meta_of bytes ≡ Some (record { bases = object_path first_base ∷ []; upto = 0 })

-- each entry has a payload
abbrev pub SpellPayloads : List Entry → Type 0
SpellPayloads entries = AllByRecursion (λ (e : Entry). IsRead e.value) entries

-- the entries of a base
abbrev pub ReadsAsBase : List ℕ → Type 0
ReadsAsBase bytes = (entries : List Entry) × (base_of bytes ≡ Some entries) × SpellPayloads entries

-- the entries of a log of the instant
abbrev pub ReadsAsLog : ℕ → List ℕ → Type 0
ReadsAsLog at bytes = (entries : List Entry) × (log_of at bytes ≡ Some entries) × SpellPayloads entries

-- what the config says of the parts that can be read
abbrev pub IsAvailable : Objects → Part → Type 0
IsAvailable objects part =
    (config : config.Config) × IsConfig config × (object_at objects Config ≡ Some (config_text config)) × Contains config.available part

-- a base of the part
abbrev pub IsBaseOf : Part → List ℕ → Type 0
IsBaseOf part path = (shard : ℕ) × (upto : ℕ) × (kind : BaseKind) × IsObjectName (Base part shard upto kind) × (path ≡ object_path (Base part shard upto kind))

-- the bases that count, where the object that names them reads
abbrev pub named_bases : Objects → Option Bases
named_bases objects = option_and_then base_meta_of (object_at objects first_bases)

-- a base of the part counts
abbrev pub HasBase : Objects → Part → Type 0
HasBase objects part = (meta : Bases) × (path : List ℕ) × (named_bases objects ≡ Some meta) × Contains meta.bases path × IsBaseOf part path

-- a config, of whose available parts each has a base; the object that names the bases may be damaged itself
pub record ReadsAsConfig (objects : Objects) (bytes : List ℕ) : Type 0 where
  pub config : config.Config
  pub is_config : IsConfig config
  pub text : bytes ≡ config_text config
  pub based : IfSome (object_at objects first_bases) (λ meta. IsSome (base_meta_of meta)) → All (HasBase objects) config.available

-- the bytes are of the object's kind; an action that is none of commits and the first base is not known
abbrev pub Reads : Objects → ObjectName → List ℕ → Type 0
Reads objects Config bytes = ReadsAsConfig objects bytes
Reads objects (Timeline at action.Commit state) bytes = ReadsAsCommit at state bytes
Reads objects (Timeline at action.Clean state) bytes = ⊥
Reads objects (Timeline at action.Rollback state) bytes = ⊥
Reads objects (Timeline at action.Indexing state) bytes = ⊥
Reads objects (Metadata at metadata.DeltaCommit completed) bytes = ReadsAsDelta at completed bytes
Reads objects (Metadata at metadata.Indexing completed) bytes = (at ≡ 0) × ReadsAsFirst completed bytes
Reads objects (Metadata at metadata.Compaction completed) bytes = ⊥
Reads objects (Metadata at metadata.Clean completed) bytes = ⊥
Reads objects (Base part shard upto base.Indexing) bytes = (upto ≡ 0) × (IsAvailable objects part → ReadsAsBase bytes)
Reads objects (Base part shard upto base.Compaction) bytes = ⊥
Reads objects (Log part shard at) bytes = IsAvailable objects part → ReadsAsLog at bytes
