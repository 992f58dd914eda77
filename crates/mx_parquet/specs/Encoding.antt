-- The bytes of a file: the magic, a chunk for each column, the footer, its length, the magic again.
use Rattle.std.specs.Prelude.{ℕ, ◌+◌, List, [], ◌∷◌, ◌++◌, length, flat_map}
use Rattle.std.specs.Int.{w32}
use Rattle.mx_schema.specs.declared.column.Column.{Column}
use Rattle.mx_thrift.specs.declared.value.Value.{Value}
use Rattle.mx_thrift.specs.declared.value.Value.TheVariants as values
use Rattle.mx_parquet.specs.declared.row.FullRow.{FullRow}
use Rattle.mx_parquet.specs.Columns.{FilledColumn, columns_of, filled_columns}
use Rattle.mx_parquet.specs.Pages.{number, page}
use Rattle.mx_parquet.specs.Shape.{Struct, struct_bytes, elements, column_chunk, row_group, file_data, page_header}

-- "PAR1"
unfoldable pub magic : List ℕ
magic = 80 ∷ 65 ∷ 82 ∷ 49 ∷ []

-- the chunk of a column: a page behind its header
abbrev pub chunk : FilledColumn → List ℕ
chunk filled = struct_bytes (page_header (length filled.cells) (length (page filled))) ++ page filled

-- all chunks
abbrev pub chunks : List FilledColumn → List ℕ
chunks filled = flat_map chunk filled

-- what the footer says of chunks that follow each other from an offset on
abbrev pub chunk_structs : ℕ → List FilledColumn → List Value
chunk_structs offset [] = []
chunk_structs offset (filled ∷ others) =
    values.Struct (column_chunk filled.column (length filled.cells) (length (chunk filled)) offset) ∷ chunk_structs (offset + length (chunk filled)) others

-- the one row group, whose chunks begin behind the magic
abbrev pub group_of : List FilledColumn → ℕ → Struct
group_of filled row_count = row_group (chunk_structs 4 filled) (length (chunks filled)) row_count

-- the footer
abbrev pub footer : List Column → List FullRow → List ℕ
footer schema rows = struct_bytes (file_data (elements (columns_of schema)) (group_of (filled_columns schema rows) (length rows)) (length rows))

-- the one written form of rows
unfoldable pub encoding : List Column → List FullRow → List ℕ
encoding schema rows =
    magic ++ chunks (filled_columns schema rows) ++ footer schema rows ++ number w32 (length (footer schema rows)) ++ magic
