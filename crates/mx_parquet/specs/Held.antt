-- What the chunks hold that a footer names.
use Rattle.std.specs.Prelude.{◌≡◌, ℕ, List, [], ◌∷◌, length, take, drop, flat_map, slice_index, ◌<◌}
use Rattle.mx_schema.specs.declared.cell.Cell.{Cell}
use Rattle.mx_schema.specs.declared.column.Column.{Column}
use Rattle.mx_parquet.specs.declared.row.FullRow.{FullRow}
use Rattle.mx_parquet.specs.declared.layout.ChunkPlace.{ChunkPlace}
use Rattle.mx_parquet.specs.declared.layout.Group.{Group}
use Rattle.mx_parquet.specs.declared.layout.Layout.{Layout}
use Rattle.mx_parquet.specs.Columns.{columns_of}
use Rattle.mx_parquet.specs.Decoding.{ArePages, table_of}

-- numbers that are bytes
abbrev pub IsBytes : List ℕ → Type 0
IsBytes bytes = (i : ℕ) → slice_index bytes i < 256

-- the bytes of a chunk
abbrev pub chunk_bytes : List ℕ → ChunkPlace → List ℕ
chunk_bytes file place = take place.size (drop place.offset file)

-- chunks of these columns hold these cells, so many each
abbrev pub HoldCells : List ℕ → ℕ → List Column → List ChunkPlace → List (List Cell) → Type 0
HoldCells file row_count [] [] [] = Unit {0}
HoldCells file row_count (column ∷ columns) (place ∷ places) (held ∷ table) =
    ArePages column (chunk_bytes file place) held × (length held ≡ row_count) × HoldCells file row_count columns places table
HoldCells file row_count columns places table = ⊥

-- row groups hold these rows, in order
abbrev pub HoldRows : List ℕ → List Column → List Group → List (List FullRow) → Type 0
HoldRows file columns [] [] = Unit {0}
HoldRows file columns (group ∷ groups) (rows ∷ parts) =
    (length rows ≡ group.row_count) × HoldCells file group.row_count columns group.chunks (table_of 0 columns rows) × HoldRows file columns groups parts
HoldRows file columns groups parts = ⊥

-- a layout of a schema's columns, whose row groups hold these rows
pub record IsLaidOut (file : List ℕ) (layout : Layout) (schema : List Column) (rows : List FullRow) : Type 0 where
  pub columns : layout.columns ≡ columns_of schema
  pub counted : layout.row_count ≡ length rows
  pub parts : List (List FullRow)
  pub each : HoldRows file (columns_of schema) layout.groups parts
  pub all : rows ≡ flat_map (λ part. part) parts
