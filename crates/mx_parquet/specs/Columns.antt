-- The columns of a file, and their cells.
use Rattle.std.specs.Prelude.{ℕ, ◌+◌, false, List, [], ◌∷◌, ◌++◌, map, codes, slice_index_or}
use Rattle.mx_schema.specs.declared.cell.Cell.{Cell}
use Rattle.mx_schema.specs.declared.cell.Cell.TheVariants as cells
use Rattle.mx_schema.specs.declared.column.Column.{Column}
use Rattle.mx_schema.specs.declared.column.ColumnKind.TheVariants as kinds
use Rattle.mx_parquet.specs.declared.row.FullRow.{FullRow}

-- the names of the five columns of Hudi
unfoldable pub hudi_names : List (List ℕ)
hudi_names =
    codes "_hoodie_commit_time" ∷ codes "_hoodie_commit_seqno" ∷ codes "_hoodie_record_key" ∷ codes "_hoodie_partition_path"
    ∷ codes "_hoodie_file_name" ∷ []

-- a column of texts without nulls
abbrev pub text_column : List ℕ → Column
text_column name = record { name = name; kind = kinds.Text; nullable = false }

-- the columns of a file: those of Hudi, then those of the schema
abbrev pub columns_of : List Column → List Column
columns_of schema = map text_column hudi_names ++ schema

-- the cells of a row under them
abbrev pub row_cells : FullRow → List Cell
row_cells row =
    cells.Text row.commit_time ∷ cells.Text row.commit_seqno ∷ cells.Text row.record_key ∷ cells.Text row.partition_path
    ∷ cells.Text row.file_name ∷ row.cells

-- the cell of a row at a place, and null where it has none
abbrev pub cell_at : ℕ → FullRow → Cell
cell_at place row = slice_index_or (row_cells row) place cells.Null

-- the cells of the rows at a place
abbrev pub cells_at : ℕ → List FullRow → List Cell
cells_at place rows = map (cell_at place) rows

-- a column with its cell of each row
pub record FilledColumn : Type 0 where
  pub column : Column
  pub cells : List Cell

-- columns that stand from a place on, each with its cells
abbrev pub filled_from : ℕ → List Column → List FullRow → List FilledColumn
filled_from place [] rows = []
filled_from place (column ∷ columns) rows = record { column = column; cells = cells_at place rows } ∷ filled_from (place + 1) columns rows

-- the columns of a file with the cells of the rows
abbrev pub filled_columns : List Column → List FullRow → List FilledColumn
filled_columns schema rows = filled_from 0 (columns_of schema) rows
