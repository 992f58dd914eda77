-- The text of a schema.
use Rattle.std.specs.Prelude.{◌≡◌, ℕ, ◌+◌, ◌<◌, ◌≤◌, ◌==◌, ◌&&◌, ◌||◌, nat_lt, nat_le, Bool, true, false, List, [], ◌∷◌, ◌++◌, length, map, take, codes, slice_index, Result, Ok, Err}
use Rattle.std.specs.List.{list_all, slice_split, join_with_byte, IsDistinct}
use Rattle.std.specs.Char.{is_ascii_alphabetic, is_ascii_alphanumeric}
use Rattle.std.specs.Str.{bytes_eq}
use Rattle.mx_schema.specs.declared.column.Column.{Column}
use Rattle.mx_schema.specs.declared.column.ColumnKind.{ColumnKind}
use Rattle.mx_schema.specs.declared.column.ColumnKind.TheVariants as kinds
use Rattle.mx_schema.specs.declared.error.SchemaError.{SchemaError}
use Rattle.mx_schema.specs.declared.error.SchemaError.TheVariants as errors

-- the name of a kind
abbrev pub kind_name : ColumnKind → List ℕ
kind_name kinds.Boolean = codes "boolean"
kind_name kinds.Int32 = codes "int32"
kind_name kinds.Int64 = codes "int64"
kind_name kinds.Text = codes "string"

-- a question mark where nulls are allowed
abbrev pub mark : Bool → List ℕ
mark true = 63 ∷ []
mark false = []

-- a column is its name, a colon, its kind and the mark
abbrev pub column_text : Column → List ℕ
column_text column = column.name ++ 58 ∷ (kind_name column.kind ++ mark column.nullable)

-- columns stand with commas between them
abbrev pub schema_text : List Column → List ℕ
schema_text columns = join_with_byte 44 (map column_text columns)

-- a letter, a digit or `_`
abbrev pub is_column_byte : ℕ → Bool
is_column_byte byte = is_ascii_alphanumeric byte || byte == 95

-- 1 to 63 letters, digits and `_`, the first a letter
unfoldable pub is_column_name : List ℕ → Bool
is_column_name name =
    nat_lt 0 (length name) && (nat_le (length name) 63 && (is_ascii_alphabetic (slice_index name 0) && list_all is_column_byte name))

-- a column has a name in its grammar
abbrev pub IsColumn : Column → Type 0
IsColumn column = is_column_name column.name ≡ true

-- columns that can begin a schema: at most 32, and no name twice
pub record AreColumns (columns : List Column) : Type 0 where
  pub few : length columns ≤ 32
  pub each : list_all (λ column. is_column_name column.name) columns ≡ true
  pub distinct : IsDistinct bytes_eq (map (λ column. column.name) columns)

-- a schema has at least one column
pub record IsSchema (schema : List Column) : Type 0 where
  pub some : 0 < length schema
  pub columns : AreColumns schema

-- what stands between the commas
abbrev pub pieces_of : List ℕ → List (List ℕ)
pieces_of text = slice_split (λ byte. byte == 44) text

-- these pieces are the texts of columns that can begin a schema
abbrev pub SpellColumns : List (List ℕ) → Type 0
SpellColumns pieces = (columns : List Column) × AreColumns columns × (pieces ≡ map column_text columns)

-- the first bad column: those before it can begin a schema, and with it they can't
pub record IsFirstBad (text : List ℕ) (at : ℕ) : Type 0 where
  pub within : at < length (pieces_of text)
  pub before : SpellColumns (take at (pieces_of text))
  pub here : ¬ (SpellColumns (take (at + 1) (pieces_of text)))

-- a refusal names the first bad column, unless memory ran out
abbrev pub SaysBad : {T : Type 0} → List ℕ → Result T SchemaError → Type 0
SaysBad text (Ok schema) = Unit {0}
SaysBad text (Err errors.NoMemory) = Unit {0}
SaysBad text (Err (errors.BadSchema at)) = IsFirstBad text at

-- the answer is this schema, unless memory ran out
abbrev pub IsOnly : List Column → Result (List Column) SchemaError → Type 0
IsOnly schema (Ok found) = found ≡ schema
IsOnly schema (Err errors.NoMemory) = Unit {0}
IsOnly schema (Err (errors.BadSchema at)) = ⊥
