-- How rows are filled, column by column.
use Rattle.std.specs.Prelude.{◌≡◌, ℕ, ◌+◌, ◌-◌, ◌<◌, ◌≤◌, nat_lt, if◌then◌else◌, List, [], ◌∷◌, ◌++◌, length, map, set, flat_map, Result, Ok, Err}
use Rattle.std.specs.List.{AllByRecursion}
use Rattle.mx_schema.specs.declared.cell.Cell.{Cell}
use Rattle.mx_schema.specs.declared.cell.Cell.TheVariants as cells
use Rattle.mx_schema.specs.declared.column.Column.{Column}
use Rattle.mx_schema.specs.Rows.{IsKeyText}
use Rattle.mx_parquet.specs.declared.row.FullRow.{FullRow}
use Rattle.mx_parquet.specs.declared.layout.ChunkPlace.{ChunkPlace}
use Rattle.mx_parquet.specs.declared.layout.Group.{Group}
use Rattle.mx_parquet.specs.declared.error.ParquetError.{ParquetError}
use Rattle.mx_parquet.specs.declared.error.ParquetError.TheVariants as errors
use Rattle.mx_parquet.specs.Columns.{row_cells, cells_at}
use Rattle.mx_parquet.specs.Chunks.{FillPages, fitted}
use Rattle.mx_parquet.specs.Held.{chunk_bytes}

-- the cells of a row with one more at a place: a text in place of one of Hudi's, or a cell behind all others
abbrev pub with_cell : ℕ → Cell → List Cell → List Cell
with_cell place (cells.Text text) row = if nat_lt place 5 then set row place (cells.Text text) else row ++ cells.Text text ∷ []
with_cell place cells.Null row = row ++ cells.Null ∷ []
with_cell place (cells.Flag flag) row = row ++ cells.Flag flag ∷ []
with_cell place (cells.Small n) row = row ++ cells.Small n ∷ []
with_cell place (cells.Whole n) row = row ++ cells.Whole n ∷ []

-- the cells of rows with one more each
abbrev pub with_cells : ℕ → List Cell → List FullRow → List (List Cell)
with_cells place [] rows = []
with_cells place (cell ∷ cells) [] = []
with_cells place (cell ∷ cells) (row ∷ rows) = with_cell place cell (row_cells row) ∷ with_cells place cells rows

-- a cell that may stand at a place of a row: a text under the columns of Hudi, and a key under that of the record key
abbrev pub MayStand : ℕ → Cell → Type 0
MayStand place (cells.Text text) = place ≡ 2 → IsKeyText text
MayStand place cells.Null = 5 ≤ place
MayStand place (cells.Flag flag) = 5 ≤ place
MayStand place (cells.Small n) = 5 ≤ place
MayStand place (cells.Whole n) = 5 ≤ place

-- so many cells of pages that fill bytes, each of which may stand at a place of a row
abbrev pub FillColumn : Column → ℕ → ℕ → List ℕ → List Cell → Type 0
FillColumn column place count bytes held = FillPages column count bytes held × AllByRecursion (MayStand place) held

-- chunks of columns from a place on hold the cells of rows
abbrev pub HoldColumns : List ℕ → ℕ → ℕ → List Column → List ChunkPlace → List FullRow → Type 0
HoldColumns file count place [] [] rows = Unit {0}
HoldColumns file count place [] (chunk ∷ chunks) rows = ⊥
HoldColumns file count place (column ∷ columns) [] rows = ⊥
HoldColumns file count place (column ∷ columns) (chunk ∷ chunks) rows =
    FillColumn column place count (chunk_bytes file chunk) (cells_at place rows) × HoldColumns file count (place + 1) columns chunks rows

-- the rows of a row group, each with a cell for each column
pub record IsGroupOf (file : List ℕ) (columns : List Column) (group : Group) (rows : List FullRow) : Type 0 where
  pub counted : length rows ≡ group.row_count
  pub as_long : AllByRecursion (λ row. length row.cells ≡ length columns - 5) rows
  pub held : HoldColumns file group.row_count 0 columns group.chunks rows

-- rows of row groups
abbrev pub AreGroupsOf : List ℕ → List Column → List Group → List (List FullRow) → Type 0
AreGroupsOf file columns [] [] = Unit {0}
AreGroupsOf file columns [] (rows ∷ parts) = ⊥
AreGroupsOf file columns (group ∷ groups) [] = ⊥
AreGroupsOf file columns (group ∷ groups) (rows ∷ parts) = IsGroupOf file columns group rows × AreGroupsOf file columns groups parts

-- rows that row groups hold, in order
pub record AreRowsOf (file : List ℕ) (columns : List Column) (groups : List Group) (rows : List FullRow) : Type 0 where
  pub parts : List (List FullRow)
  pub each : AreGroupsOf file columns groups parts
  pub all : rows ≡ flat_map (λ part. part) parts

-- a row as it is read
abbrev pub fitted_row : FullRow → FullRow
fitted_row row = record {
  commit_time = row.commit_time;
  commit_seqno = row.commit_seqno;
  record_key = row.record_key;
  partition_path = row.partition_path;
  file_name = row.file_name;
  cells = map fitted row.cells;
}

-- the cells of rows under columns from a place on are read as those of others
abbrev pub ReadAs : ℕ → List Column → List FullRow → List FullRow → Type 0
ReadAs place [] rows read = Unit {0}
ReadAs place (column ∷ columns) rows read = (map fitted (cells_at place rows) ≡ cells_at place read) × ReadAs (place + 1) columns rows read

-- how rows are filled with the cells of columns from a place on: what stands before it is kept
pub record AreFilled (file : List ℕ) (count place : ℕ) (columns : List Column) (chunks : List ChunkPlace) (before after : List FullRow) : Type 0 where
  pub held : HoldColumns file count place columns chunks after
  pub kept : (other : ℕ) → other < place → cells_at other after ≡ cells_at other before
  pub as_many : length after ≡ length before
  pub as_long : AllByRecursion (λ row. length row.cells ≡ place + length columns - 5) after
  pub only : (others : List FullRow) → HoldColumns file count place columns chunks others → ReadAs place columns others after

-- an error says that nothing meets a condition, unless memory ran out
abbrev pub Refuses : {X A : Type 0} → (A → Type 0) → Result X ParquetError → Type 0
Refuses Meets (Ok x) = Unit {0}
Refuses Meets (Err errors.NoMemory) = Unit {0}
Refuses {X} {A} Meets (Err (errors.BadParquet at)) = (y : A) → ¬ (Meets y)
Refuses {X} {A} Meets (Err (errors.Unsupported what)) = (y : A) → ¬ (Meets y)

-- a row without cells
abbrev pub blank : FullRow
blank = record { commit_time = []; commit_seqno = []; record_key = []; partition_path = []; file_name = []; cells = [] }
