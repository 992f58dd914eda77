-- The data files of a table: which its commits list, and that each stands and holds rows of the table's schema.
use Rattle.std.specs.Prelude.{◌≡◌, ℕ, List, Contains, Some}
use Rattle.mx_base.specs.Paths.{data_path}
use Rattle.mx_base.specs.declared.entry.FileAt.{FileAt}
use Rattle.mx_base.specs.declared.object_name.ObjectName.TheVariants.{Config}
use Rattle.mx_model.specs.Listing.{listed_files}
use Rattle.mx_parquet.specs.Decoding.{Decodes}
use Rattle.mx_parquet.specs.declared.row.FullRow.{FullRow}
use Rattle.mx_props.specs.Config as config
use Rattle.mx_props.specs.Config.{IsConfig, config_text}
use Rattle.mx_schema.specs.declared.column.Column.{Column}
use Rattle.mx_store.specs.Objects.{Objects, at_path}
use Rattle.mx_folder.specs.Named.{object_at}
use Rattle.mx_folder.specs.Actions.{actions_upto}

-- where a file of a table stands
abbrev pub place_of : FileAt → List ℕ
place_of file = data_path file.partition file.file file.at

-- a completed commit lists the file at the path
pub record Lists (objects : Objects) (path : List ℕ) : Type 0 where
  pub upto : ℕ
  pub file : FileAt
  pub among : Contains (listed_files (actions_upto objects upto)) file
  pub path_is : path ≡ place_of file

-- the schema that the config has
pub record IsSchemaOf (objects : Objects) (schema : List Column) : Type 0 where
  pub config : config.Config
  pub is_config : IsConfig config
  pub stands : object_at objects Config ≡ Some (config_text config)
  pub schema_is : schema ≡ config.schema

-- a file of rows of the table's schema stands at the path
pub record HoldsRows (objects : Objects) (path : List ℕ) : Type 0 where
  pub schema : List Column
  pub of_table : IsSchemaOf objects schema
  pub bytes : List ℕ
  pub stands : at_path objects path ≡ Some bytes
  pub rows : List FullRow
  pub decodes : Decodes bytes schema rows
