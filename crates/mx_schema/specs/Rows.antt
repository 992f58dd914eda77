-- Which rows fit a schema.
use Rattle.std.specs.Prelude.{◌≡◌, ◌≢◌, ℕ, ℤ, ◌<◌, ◌≤◌, IsTrue, List, ◌∷◌, length, map, All, Option, Some, None, slice_get}
use Rattle.std.specs.Int.{w32}
use Rattle.std.specs.Int.RustNames.{FitsSigned}
use Rattle.mx_schema.specs.declared.column.Column.{Column}
use Rattle.mx_schema.specs.declared.column.ColumnKind.{ColumnKind}
use Rattle.mx_schema.specs.declared.column.ColumnKind.TheVariants as kinds
use Rattle.mx_schema.specs.declared.row.RowValue.{RowValue}
use Rattle.mx_schema.specs.declared.row.RowValue.TheVariants as values

-- a key has 1 to 255 bytes, none of them 0
pub record IsKeyText (text : List ℕ) : Type 0 where
  pub some : 0 < length text
  pub few : length text ≤ 255
  pub each : All (λ byte. byte ≢ 0) text

-- a key is a text
abbrev pub IsKey : RowValue → Type 0
IsKey values.Null = ⊥
IsKey (values.Flag flag) = ⊥
IsKey (values.Whole number) = ⊥
IsKey (values.Text text) = IsKeyText text

-- the whole numbers of a kind
abbrev pub HasNumber : ColumnKind → ℤ → Type 0
HasNumber kinds.Boolean number = ⊥
HasNumber kinds.Int32 number = FitsSigned w32 number
HasNumber kinds.Int64 number = Unit {0}
HasNumber kinds.Text number = ⊥

-- a cell is null where the column allows nulls, or of the column's kind, in its range, and a text of at most 4,096 bytes
abbrev pub IsCellOf : Column → RowValue → Type 0
IsCellOf column values.Null = IsTrue column.nullable
IsCellOf column (values.Flag flag) = column.kind ≡ kinds.Boolean
IsCellOf column (values.Whole number) = HasNumber column.kind number
IsCellOf column (values.Text text) = (column.kind ≡ kinds.Text) × (length text ≤ 4096)

-- what a place of a row asks for: the key, or a cell of a column
pub data Asked : Type 0 where
  Key : Asked
  CellOf : Column → Asked

-- each place of a row under a schema
abbrev pub asked : List Column → List Asked
asked columns = Key ∷ map CellOf columns

-- an element is what its place asks for, where it asks for one, and nothing stands where it asks for none
abbrev pub Fits : Option Asked → Option RowValue → Type 0
Fits None None = Unit {0}
Fits None (Some value) = ⊥
Fits (Some place) None = ⊥
Fits (Some Key) (Some value) = IsKey value
Fits (Some (CellOf column)) (Some value) = IsCellOf column value

-- each place of a row is what the places ask for
abbrev pub FitsAll : List Asked → List RowValue → Type 0
FitsAll places row = (place : ℕ) → Fits (slice_get places place) (slice_get row place)

-- the first place that is not
pub record IsFirstBad (places : List Asked) (row : List RowValue) (bad : ℕ) : Type 0 where
  pub here : ¬ (Fits (slice_get places bad) (slice_get row bad))
  pub before : (place : ℕ) → place < bad → Fits (slice_get places place) (slice_get row place)
