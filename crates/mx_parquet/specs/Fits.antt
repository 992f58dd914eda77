-- Which rows a file of a schema can hold.
use Rattle.std.specs.Prelude.{◌≡◌, ◌≤◌, IsTrue, List, length}
use Rattle.std.specs.List.{AllByRecursion, AllZip}
use Rattle.std.specs.Str.{IsUtf8}
use Rattle.mx_schema.specs.Rows.{IsKeyText}
use Rattle.mx_schema.specs.declared.cell.Cell.{Cell}
use Rattle.mx_schema.specs.declared.cell.Cell.TheVariants as cells
use Rattle.mx_schema.specs.declared.column.Column.{Column}
use Rattle.mx_schema.specs.declared.column.ColumnKind.TheVariants as kinds
use Rattle.mx_parquet.specs.declared.row.FullRow.{FullRow}
use Rattle.mx_parquet.specs.Columns.{row_cells}

-- null where the column allows nulls, or a cell of its kind, a text of at most 4,096 bytes
abbrev pub IsCellOf : Column → Cell → Type 0
IsCellOf column cells.Null = IsTrue column.nullable
IsCellOf column (cells.Flag flag) = column.kind ≡ kinds.Boolean
IsCellOf column (cells.Small n) = column.kind ≡ kinds.Int32
IsCellOf column (cells.Whole n) = column.kind ≡ kinds.Int64
IsCellOf column (cells.Text text) = (column.kind ≡ kinds.Text) × (length text ≤ 4096)

-- the third text is a record key, and each column of the schema has a cell, and nothing is left over
pub record FitsRow (schema : List Column) (row : FullRow) : Type 0 where
  pub key : IsKeyText row.record_key
  pub cells : AllZip IsCellOf schema row.cells

-- a cell that is no text, or a text in UTF-8
abbrev pub IsEncoded : Cell → Type 0
IsEncoded cells.Null = Unit {0}
IsEncoded (cells.Flag flag) = Unit {0}
IsEncoded (cells.Small n) = Unit {0}
IsEncoded (cells.Whole n) = Unit {0}
IsEncoded (cells.Text text) = IsUtf8 text

-- each text of a row is in UTF-8
abbrev pub HasTexts : FullRow → Type 0
HasTexts row = AllByRecursion IsEncoded (row_cells row)
