-- What the config of a table says, and its text.
use Rattle.std.specs.Prelude.{◌≡◌, ℕ, ◌+◌, ◌&&◌, nat_le, Bool, true, List, [], ◌∷◌, ◌++◌, map, Contains, codes, Option, Some, None, slice_get}
use Rattle.std.specs.List.{join_with_byte, concat}
use Rattle.std.specs.Option.{option_to_list}
use Rattle.mx_base.specs.declared.part.Part.{Part}
use Rattle.mx_base.specs.declared.part.Part.TheVariants as parts
use Rattle.mx_base.specs.Parts.{part_name, part_place}
use Rattle.mx_schema.specs.declared.column.Column.{Column}
use Rattle.mx_schema.specs.Columns.{schema_text, IsSchema}

-- each part stands behind the one before it, and the first not before the place
abbrev pub rises_from : ℕ → List Part → Bool
rises_from place [] = true
rises_from place (part ∷ parts) = nat_le place (part_place part) && rises_from (part_place part + 1) parts

-- available are `files`, and others behind it in their order, none twice
pub record AreAvailable (available : List Part) : Type 0 where
  pub files : slice_get available 0 ≡ Some parts.Files
  pub rising : rises_from 0 available ≡ true

-- what is being built is not available
abbrev pub IsApart : List Part → Option Part → Type 0
IsApart available None = Unit {0}
IsApart available (Some part) = ¬ (Contains available part)

-- what a config says
pub record Config : Type 0 where
  pub available : List Part
  pub building : Option Part
  pub schema : List Column

-- a config keeps these rules
pub record IsConfig (config : Config) : Type 0 where
  pub available : AreAvailable config.available
  pub building : IsApart config.available config.building
  pub schema : IsSchema config.schema

-- parts with commas between them
abbrev pub parts_text : List Part → List ℕ
parts_text listed = join_with_byte 44 (map part_name listed)

-- the line of the available parts
unfoldable pub available_line : List Part → List ℕ
available_line available = codes "hoodie.table.metadata.partitions=" ++ (parts_text available ++ 10 ∷ [])

-- the line of the part that is being built, empty where there is none
unfoldable pub building_line : Option Part → List ℕ
building_line building = codes "hoodie.table.metadata.partitions.inflight=" ++ (parts_text (option_to_list building) ++ 10 ∷ [])

-- the line of the version
unfoldable pub version_line : List ℕ
version_line = codes "hoodie.table.version=6" ++ 10 ∷ []

-- the line of the schema
unfoldable pub schema_line : List Column → List ℕ
schema_line schema = codes "mdt.schema=" ++ (schema_text schema ++ 10 ∷ [])

-- the four lines of a config, each with its newline
abbrev pub config_lines : Config → List (List ℕ)
config_lines config = available_line config.available ∷ building_line config.building ∷ version_line ∷ schema_line config.schema ∷ []

-- a config is its lines
abbrev pub config_text : Config → List ℕ
config_text config = concat (config_lines config)
