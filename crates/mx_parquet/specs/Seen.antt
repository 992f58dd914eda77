-- What the code holds, as the definitions see it.
use Rattle.std.specs.Prelude.{ℕ, List, Option, Some, None, Ok, Err}
use Rattle.mx_schema.specs.declared.cell.Cell.{Cell}
use Rattle.mx_schema.specs.declared.cell.Cell.TheVariants as cells
use Rattle.mx_schema.specs.declared.column.Column.{Column}
use Rattle.mx_parquet.specs.declared.row.FullRow.{FullRow}
use Rattle.mx_parquet.specs.declared.view.CellView.{CellView}
use Rattle.mx_parquet.specs.declared.view.CellView.TheVariants as views
use Rattle.mx_parquet.specs.declared.column.ColumnView.{ColumnView}
use Rattle.mx_parquet.specs.declared.error.Flaw.TheVariants as flaws
use Rattle.mx_parquet.specs.declared.fields.Standing.{Standing}
use Rattle.mx_parquet.specs.declared.fields.Standing.TheVariants as standings
use Rattle.mx_thrift.specs.declared.value.Value.{Value}
use Rattle.mx_thrift.specs.Encoding.{IsWritable}
use Rattle.mx_parquet.specs.Reading.{Read}
use Rattle.mx_parquet.specs.Columns.{FilledColumn, cells_at}
use Rattle.mx_parquet.specs.Shape.{Struct}

-- a column
abbrev pub seen : ColumnView → Column
seen column = record { name = column.name.now; kind = column.kind; nullable = column.nullable }

-- a cell
abbrev pub seen_cell : CellView → Cell
seen_cell views.Null = cells.Null
seen_cell (views.Flag flag) = cells.Flag flag
seen_cell (views.Small n) = cells.Small n
seen_cell (views.Whole n) = cells.Whole n
seen_cell (views.Text text) = cells.Text text.now

-- a column with the cells of the rows at a place
abbrev pub filled : ColumnView → ℕ → List FullRow → FilledColumn
filled column place rows = record { column = seen column; cells = cells_at place rows }

-- a struct that has bytes
unfoldable pub CanWrite : Struct → Type 0
CanWrite fields = IsWritable fields

-- how often a value stands, as it is read
abbrev pub said : Standing → Read (Option Value)
said standings.Never = Ok None
said (standings.Once value) = Ok (Some value.now)
said standings.Often = Err flaws.Bad
