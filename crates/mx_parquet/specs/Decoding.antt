-- Which schema and rows the bytes of a file stand for, in any form that is read.
use Rattle.std.specs.Prelude.{◌≡◌, ℕ, ◌+◌, ◌==◌, ◌^◌, ◌<◌, ◌≤◌, ℤ, pos, negsuc, Bool, true, false, IsTrue, List, [], ◌∷◌, ◌++◌, length, map, filter, take, drop, flat_map}
use Rattle.std.specs.Int.{w32, div_ceil}
use Rattle.std.specs.List.{AllByRecursion, AllZip}
use Rattle.std.specs.Str.{IsUtf8}
use Rattle.mx_schema.specs.declared.cell.Cell.{Cell}
use Rattle.mx_schema.specs.declared.cell.Cell.TheVariants as cells
use Rattle.mx_schema.specs.declared.column.Column.{Column}
use Rattle.mx_schema.specs.declared.column.ColumnKind.{ColumnKind}
use Rattle.mx_schema.specs.declared.column.ColumnKind.TheVariants as kinds
use Rattle.mx_schema.specs.Columns.{IsSchema}
use Rattle.mx_schema.specs.Rows.{IsKeyText}
use Rattle.mx_levels.specs.Encoding.{bits}
use Rattle.mx_levels.specs.Decoding as levels
use Rattle.mx_thrift.specs.declared.value.Value.{Value}
use Rattle.mx_thrift.specs.declared.value.Value.TheVariants as values
use Rattle.mx_thrift.specs.Grammar as thrift
use Rattle.mx_parquet.specs.declared.row.FullRow.{FullRow}
use Rattle.mx_parquet.specs.Columns.{columns_of, cells_at}
use Rattle.mx_parquet.specs.Pages.{number, is_present, plain, truths}
use Rattle.mx_parquet.specs.Shape.{Struct, type_code, repetition_code}
use Rattle.mx_parquet.specs.Encoding.{magic}

-- ---- fields, where those of other numbers are passed over

-- whether a number is that of a field
abbrev pub is_id : ℕ → ℤ → Bool
is_id n (pos m) = m == n
is_id n (negsuc m) = false

-- what stands under a number
abbrev pub values_of : ℕ → Struct → List Value
values_of id fields = map (λ f. f.value) (filter (λ f. is_id id f.id) fields)

-- a number stands once, and this is its value
abbrev pub Has : ℕ → Struct → Value → Type 0
Has id fields value = values_of id fields ≡ value ∷ []

-- a number does not stand
abbrev pub HasNo : ℕ → Struct → Type 0
HasNo id fields = values_of id fields ≡ []

-- ---- pages

-- a header of a data page of so many values and bytes: PLAIN values, RLE levels, no compression
pub record IsPageHeader (fields : Struct) (value_count size : ℕ) : Type 0 where
  pub data_page : Has 1 fields (values.Int (pos 0))
  pub uncompressed : Has 2 fields (values.Int (pos size))
  pub compressed : Has 3 fields (values.Int (pos size))
  pub inner : Struct
  pub inside : Has 5 fields (values.Struct inner)
  pub counted : Has 1 inner (values.Int (pos value_count))
  pub encoding : Has 2 inner (values.Int (pos 0))
  pub definition : Has 3 inner (values.Int (pos 3))
  pub repetition : Has 4 inner (values.Int (pos 3))

-- a cell that a page of a column holds: null where nulls are allowed, or of its kind, a text in UTF-8
abbrev pub IsHeldBy : Column → Cell → Type 0
IsHeldBy column cells.Null = IsTrue column.nullable
IsHeldBy column (cells.Flag flag) = column.kind ≡ kinds.Boolean
IsHeldBy column (cells.Small n) = column.kind ≡ kinds.Int32
IsHeldBy column (cells.Whole n) = column.kind ≡ kinds.Int64
IsHeldBy column (cells.Text text) = (column.kind ≡ kinds.Text) × IsUtf8 text

-- the levels of cells behind their length, where nulls are allowed
abbrev pub AreLevels : Bool → List ℕ → List Cell → Type 0
AreLevels false bytes column = bytes ≡ []
AreLevels true bytes column =
    (body : List ℕ) × (length body < 2 ^ 32) × (bytes ≡ number w32 (length body) ++ body) × levels.Decodes body (length column) (map is_present column)

-- truth values are bits, the lowest of a byte first, in as few bytes as hold them; the further bits do not count
abbrev pub AreBits : List ℕ → List Bool → Type 0
AreBits bytes flags = (length bytes ≡ div_ceil (length flags) 8) × (take (length flags) (flat_map (bits 8) bytes) ≡ flags)

-- the cells that are not null
abbrev pub AreValues : ColumnKind → List ℕ → List Cell → Type 0
AreValues kinds.Boolean bytes column = AreBits bytes (flat_map truths column)
AreValues kinds.Int32 bytes column = bytes ≡ flat_map plain column
AreValues kinds.Int64 bytes column = bytes ≡ flat_map plain column
AreValues kinds.Text bytes column = bytes ≡ flat_map plain column

-- a page: levels and values
pub record IsPageOf (column : Column) (bytes : List ℕ) (held : List Cell) : Type 0 where
  pub front : List ℕ
  pub rest : List ℕ
  pub parts : bytes ≡ front ++ rest
  pub levelled : AreLevels column.nullable front held
  pub valued : AreValues column.kind rest held
  pub each : AllByRecursion (IsHeldBy column) held

-- a page as it is found: its header and what that says, its bytes, its cells
pub record FoundPage : Type 0 where
  pub header : List ℕ
  pub fields : Struct
  pub body : List ℕ
  pub held : List Cell

-- a page behind its header
pub record IsFoundPage (column : Column) (page : FoundPage) : Type 0 where
  pub said : thrift.Decodes page.header page.fields
  pub headed : IsPageHeader page.fields (length page.held) (length page.body)
  pub is_page : IsPageOf column page.body page.held

-- pages that fill these bytes and hold these cells, in order
pub record ArePages (column : Column) (bytes : List ℕ) (held : List Cell) : Type 0 where
  pub pages : List FoundPage
  pub each : AllByRecursion (IsFoundPage column) pages
  pub fill : bytes ≡ flat_map (λ page. page.header ++ page.body) pages
  pub all : held ≡ flat_map (λ page. page.held) pages

-- ---- the footer

-- the converted type that a kind has
abbrev pub HasConverted : ColumnKind → Struct → Type 0
HasConverted kinds.Boolean fields = HasNo 6 fields
HasConverted kinds.Int32 fields = HasNo 6 fields
HasConverted kinds.Int64 fields = HasNo 6 fields
HasConverted kinds.Text fields = Has 6 fields (values.Int (pos 0))

-- an element of a column, which has no children
pub record IsElement (column : Column) (fields : Struct) : Type 0 where
  pub typed : Has 1 fields (values.Int (pos (type_code column.kind)))
  pub repeated : Has 3 fields (values.Int (pos (repetition_code column.nullable)))
  pub named : Has 4 fields (values.Bytes column.name)
  pub leaf : HasNo 5 fields
  pub converted : HasConverted column.kind fields

-- an element with so many columns below it, of any name
pub record IsRoot (fields : Struct) (count : ℕ) : Type 0 where
  pub name : List ℕ
  pub named : Has 4 fields (values.Bytes name)
  pub counted : Has 5 fields (values.Int (pos count))

-- what the footer says of a column's chunk, and the pages that stand there; two sizes and offsets that nothing rests on may be any
pub record IsChunk (file : List ℕ) (column : Column) (fields : Struct) (held : List Cell) : Type 0 where
  pub file_offset : ℤ
  pub offset_said : Has 2 fields (values.Long file_offset)
  pub inner : Struct
  pub inside : Has 3 fields (values.Struct inner)
  pub typed : Has 1 inner (values.Int (pos (type_code column.kind)))
  pub encodings : List Value
  pub encoded : Has 2 inner (values.List 5 encodings)
  pub named : Has 3 inner (values.List 8 (values.Bytes column.name ∷ []))
  pub plain_codec : Has 4 inner (values.Int (pos 0))
  pub counted : Has 5 inner (values.Long (pos (length held)))
  pub whole : ℤ
  pub whole_said : Has 6 inner (values.Long whole)
  pub size : ℕ
  pub offset : ℕ
  pub sized : Has 7 inner (values.Long (pos size))
  pub placed : Has 9 inner (values.Long (pos offset))
  pub no_dictionary : HasNo 11 inner
  pub within : offset + size ≤ length file
  pub pages : ArePages column (take size (drop offset file)) held

-- a chunk of each column, in order, with its cells
abbrev pub AreChunks : List ℕ → List Column → List Struct → List (List Cell) → Type 0
AreChunks file [] [] [] = Unit {0}
AreChunks file (column ∷ columns) (chunk ∷ chunks) (held ∷ table) = IsChunk file column chunk held × AreChunks file columns chunks table
AreChunks file columns chunks table = ⊥

-- a row group, with the cells of these rows under each column
pub record IsGroup (file : List ℕ) (columns : List Column) (fields : Struct) (table : List (List Cell)) (row_count : ℕ) : Type 0 where
  pub chunks : List Struct
  pub listed : Has 1 fields (values.List 12 (map values.Struct chunks))
  pub byte_size : ℤ
  pub size_said : Has 2 fields (values.Long byte_size)
  pub counted : Has 3 fields (values.Long (pos row_count))
  pub each : AreChunks file columns chunks table
  pub as_long : AllByRecursion (λ held. length held ≡ row_count) table

-- the cells of rows under so many columns from a place on
abbrev pub table_of : ℕ → List Column → List FullRow → List (List Cell)
table_of place [] rows = []
table_of place (column ∷ columns) rows = cells_at place rows ∷ table_of (place + 1) columns rows

-- row groups that hold these rows, in order
abbrev pub AreGroups : List ℕ → List Column → List Struct → List (List FullRow) → Type 0
AreGroups file columns [] [] = Unit {0}
AreGroups file columns (group ∷ groups) (rows ∷ others) = IsGroup file columns group (table_of 0 columns rows) (length rows) × AreGroups file columns groups others
AreGroups file columns groups parts = ⊥

-- a row has a record key, and as many cells as the schema has columns
pub record IsFullRow (schema : List Column) (row : FullRow) : Type 0 where
  pub key : IsKeyText row.record_key
  pub as_many : length row.cells ≡ length schema

-- a footer of this schema, whose groups hold these rows
pub record IsFooter (file : List ℕ) (fields : Struct) (schema : List Column) (rows : List FullRow) : Type 0 where
  pub version : ℤ
  pub version_said : Has 1 fields (values.Int version)
  pub root : Struct
  pub elements : List Struct
  pub is_root : IsRoot root (length (columns_of schema))
  pub are_elements : AllZip IsElement (columns_of schema) elements
  pub described : Has 2 fields (values.List 12 (values.Struct root ∷ map values.Struct elements))
  pub counted : Has 3 fields (values.Long (pos (length rows)))
  pub groups : List Struct
  pub parts : List (List FullRow)
  pub listed : Has 4 fields (values.List 12 (map values.Struct groups))
  pub each : AreGroups file (columns_of schema) groups parts
  pub all : rows ≡ flat_map (λ part. part) parts

-- bytes stand for a schema and rows
pub record Decodes (file : List ℕ) (schema : List Column) (rows : List FullRow) : Type 0 where
  pub few_bytes : length file ≤ 4_194_304
  pub few_rows : length rows ≤ 16_384
  pub is_schema : IsSchema schema
  pub each : AllByRecursion (IsFullRow schema) rows
  pub front : List ℕ
  pub footer : List ℕ
  pub small : length footer < 2 ^ 32
  pub parts : file ≡ magic ++ front ++ footer ++ number w32 (length footer) ++ magic
  pub fields : Struct
  pub said : thrift.Decodes footer fields
  pub is_footer : IsFooter file fields schema rows
