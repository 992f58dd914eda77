-- The rows of a data file: those of the ask with the five columns of Hudi in front (Hudi's technical specification, meta fields).
use Rattle.std.specs.Prelude.{ℕ, ◌+◌, List, [], ◌∷◌, ◌++◌, decimal, unwrap_or}
use Rattle.mx_base.specs.Digits.{instant_text}
use Rattle.mx_parquet.specs.declared.row.FullRow.{FullRow}
use Rattle.mx_schema.specs.declared.cell.Cell.{Cell}
use Rattle.mx_schema.specs.declared.cell.Cell.TheVariants as cells
use Rattle.mx_schema.specs.declared.column.Column.{Column}
use Rattle.mx_schema.specs.declared.column.ColumnKind.{ColumnKind}
use Rattle.mx_schema.specs.declared.column.ColumnKind.TheVariants as kinds
use Rattle.mx_schema.specs.declared.row.RowValue.{RowValue}
use Rattle.mx_schema.specs.declared.row.RowValue.TheVariants as values
use Rattle.mx_rows.specs.Checks.{Row, key_of}

-- where the rows of a file are written: the instant of the commit, the file's number in it, its partition and its name
pub record Where : Type 0 where
  pub at : ℕ
  pub number : ℕ
  pub partition : List ℕ
  pub name : List ℕ

-- the number of a row: the instant, the number of the file and that of the row, with `_` between them
abbrev pub seqno : ℕ → ℕ → ℕ → List ℕ
seqno at file row = instant_text at ++ (95 ∷ decimal file) ++ (95 ∷ decimal row)

-- a whole number in a column is of the column's width
abbrev pub number_of : ColumnKind → RowValue → Cell
number_of kind values.Null = cells.Null
number_of kind (values.Flag flag) = cells.Flag flag
number_of kinds.Int32 (values.Whole number) = cells.Small number
number_of kinds.Int64 (values.Whole number) = cells.Whole number
number_of kinds.Boolean (values.Whole number) = cells.Whole number
number_of kinds.Text (values.Whole number) = cells.Whole number
number_of kind (values.Text text) = cells.Text text

-- the cells of the columns
abbrev pub cells_of : List Column → List RowValue → List Cell
cells_of [] elements = []
cells_of (column ∷ columns) [] = []
cells_of (column ∷ columns) (value ∷ elements) = number_of column.kind value ∷ cells_of columns elements

-- the elements behind the key
abbrev pub behind_key : Row → List RowValue
behind_key [] = []
behind_key (key ∷ elements) = elements

-- a row with the five columns
abbrev pub full_row : List Column → Where → ℕ → Row → FullRow
full_row columns w number row = record {
  commit_time = instant_text w.at;
  commit_seqno = seqno w.at w.number number;
  record_key = unwrap_or (key_of row) [];
  partition_path = w.partition;
  file_name = w.name;
  cells = cells_of columns (behind_key row);
}

-- the rows from this number on
abbrev pub full_rows_from : List Column → Where → ℕ → List Row → List FullRow
full_rows_from columns w number [] = []
full_rows_from columns w number (row ∷ rows) = full_row columns w number row ∷ full_rows_from columns w (number + 1) rows

-- the rows of a file, numbered from 0
abbrev pub full_rows : List Column → Where → List Row → List FullRow
full_rows columns w rows = full_rows_from columns w 0 rows
