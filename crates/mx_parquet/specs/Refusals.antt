-- What an answer says of a file.
use Rattle.std.specs.Prelude.{ℕ, List}
use Rattle.std.specs.Int.{w32, w64}
use Rattle.std.specs.Int.RustNames.{FitsSigned}
use Rattle.std.specs.List.{AllByRecursion}
use Rattle.mx_schema.specs.declared.cell.Cell.{Cell}
use Rattle.mx_schema.specs.declared.cell.Cell.TheVariants as cells
use Rattle.mx_schema.specs.declared.column.Column.{Column}
use Rattle.mx_parquet.specs.declared.row.FullRow.{FullRow}
use Rattle.mx_parquet.specs.declared.error.ParquetError.{ParquetError}
use Rattle.mx_parquet.specs.declared.error.ParquetError.TheVariants as errors
use Rattle.mx_parquet.specs.Decoding.{Decodes}

-- an error says that a file stands for no rows of any schema, unless memory ran out
abbrev pub IsRefusal : List ℕ → ParquetError → Type 0
IsRefusal file errors.NoMemory = Unit {0}
IsRefusal file (errors.BadParquet at) = (schema : List Column) (rows : List FullRow) → ¬ (Decodes file schema rows)
IsRefusal file (errors.Unsupported what) = (schema : List Column) (rows : List FullRow) → ¬ (Decodes file schema rows)

-- a number of a cell fits the width of its kind
abbrev pub IsInWidth : Cell → Type 0
IsInWidth cells.Null = Unit {0}
IsInWidth (cells.Flag flag) = Unit {0}
IsInWidth (cells.Small n) = FitsSigned w32 n
IsInWidth (cells.Whole n) = FitsSigned w64 n
IsInWidth (cells.Text text) = Unit {0}

-- the numbers of rows fit
abbrev pub HaveNumbers : List FullRow → Type 0
HaveNumbers rows = AllByRecursion (λ row. AllByRecursion IsInWidth row.cells) rows
