-- The changes that make a new table.
use Rattle.std.specs.Prelude.{false, List, [], ◌∷◌, None, codes}
use Rattle.serde_json.specs.Written.{compact_text}
use Rattle.mx_base.specs.Objects.{object_path}
use Rattle.mx_base.specs.declared.object_name.MetadataActionKind.TheVariants as metadata
use Rattle.mx_base.specs.declared.object_name.ObjectName.{ObjectName}
use Rattle.mx_base.specs.declared.object_name.ObjectName.TheVariants.{Config, Metadata}
use Rattle.mx_base.specs.declared.part.Part.TheVariants.{Files}
use Rattle.mx_hfile.specs.Encoding.{encoding}
use Rattle.mx_meta.specs.ShardFiles.{base_meta_data}
use Rattle.mx_meta.specs.Views.{Bases}
use Rattle.mx_props.specs.Config as config
use Rattle.mx_props.specs.Config.{config_text}
use Rattle.mx_schema.specs.declared.column.Column.{Column}
use Rattle.mx_store.specs.declared.change.Change.{Change}
use Rattle.mx_store.specs.declared.change.Change.TheVariants.{Create}
use Rattle.mx_folder.specs.Named.{first_base, first_bases}

-- the object that tells that the first base is being written
abbrev pub first_mark : ObjectName
first_mark = Metadata 0 metadata.Indexing false

-- the one base that counts, which has everything up to the instant 0
abbrev pub first_meta : Bases
first_meta = record { bases = object_path first_base ∷ []; upto = 0 }

-- the config of a new table: `files` can be read, and nothing is being built
abbrev pub first_config : List Column → config.Config
first_config schema = record { available = Files ∷ []; building = None; schema = schema }

-- the base without entries and the two objects of its instant round it, then the config
abbrev pub init_changes : List Column → List Change
init_changes schema =
    Create (object_path first_mark) (codes "{}")
    ∷ Create (object_path first_base) (encoding [])
    ∷ Create (object_path first_bases) (compact_text (base_meta_data first_meta))
    ∷ Create (object_path Config) (config_text (first_config schema)) ∷ []
