-- The structs of a file, as lists of fields: a number and a value each.
use Rattle.std.specs.Prelude.{ℕ, pos, Bool, true, false, List, [], ◌∷◌, length, map, codes}
use Rattle.mx_schema.specs.declared.column.Column.{Column}
use Rattle.mx_schema.specs.declared.column.ColumnKind.{ColumnKind}
use Rattle.mx_schema.specs.declared.column.ColumnKind.TheVariants as kinds
use Rattle.mx_thrift.specs.declared.value.Value.{Value}
use Rattle.mx_thrift.specs.declared.value.Value.TheVariants as values
use Rattle.mx_thrift.specs.declared.value.Field.{Field}
use Rattle.mx_thrift.specs.Encoding.{written}

-- a struct
abbrev pub Struct : Type 0
Struct = List Field

-- its bytes
unfoldable pub struct_bytes : Struct → List ℕ
struct_bytes fields = written fields

-- a field of 32 bits
abbrev pub int : ℕ → ℕ → Field
int id n = record { id = pos id; value = values.Int (pos n) }

-- a field of 64 bits
abbrev pub long : ℕ → ℕ → Field
long id n = record { id = pos id; value = values.Long (pos n) }

-- a field that is a text
abbrev pub text : ℕ → List ℕ → Field
text id bytes = record { id = pos id; value = values.Bytes bytes }

-- a field that is a struct
abbrev pub struct : ℕ → Struct → Field
struct id fields = record { id = pos id; value = values.Struct fields }

-- a field that is a list of structs
abbrev pub items : ℕ → List Value → Field
items id all = record { id = pos id; value = values.List 12 all }

-- the type of a kind: BOOLEAN, INT32, INT64 or BYTE_ARRAY
abbrev pub type_code : ColumnKind → ℕ
type_code kinds.Boolean = 0
type_code kinds.Int32 = 1
type_code kinds.Int64 = 2
type_code kinds.Text = 6

-- OPTIONAL where nulls are allowed, else REQUIRED
abbrev pub repetition_code : Bool → ℕ
repetition_code true = 1
repetition_code false = 0

-- the converted type UTF8, which texts have
abbrev pub converted : ColumnKind → List Field
converted kinds.Boolean = []
converted kinds.Int32 = []
converted kinds.Int64 = []
converted kinds.Text = int 6 0 ∷ []

-- SchemaElement of a column: type, repetition, name, converted type
abbrev pub element : Column → Struct
element column = int 1 (type_code column.kind) ∷ int 3 (repetition_code column.nullable) ∷ text 4 column.name ∷ converted column.kind

-- SchemaElement of the root: its name, and how many columns there are
abbrev pub root_element : ℕ → Struct
root_element count = text 4 (codes "table") ∷ int 5 count ∷ []

-- the encodings PLAIN and RLE
abbrev pub encodings : Field
encodings = record { id = pos 2; value = values.List 5 (values.Int (pos 0) ∷ values.Int (pos 3) ∷ []) }

-- the path of a column, which is its name
abbrev pub column_path : List ℕ → Field
column_path name = record { id = pos 3; value = values.List 8 (values.Bytes name ∷ []) }

-- ColumnMetaData: type, encodings, path, codec UNCOMPRESSED, count of values, both sizes, where the page header stands
abbrev pub column_data : Column → ℕ → ℕ → ℕ → Struct
column_data column value_count size offset =
    int 1 (type_code column.kind) ∷ encodings ∷ column_path column.name ∷ int 4 0 ∷ long 5 value_count ∷ long 6 size ∷ long 7 size ∷ long 9 offset ∷ []

-- ColumnChunk: where it stands, and its ColumnMetaData
abbrev pub column_chunk : Column → ℕ → ℕ → ℕ → Struct
column_chunk column value_count size offset = long 2 offset ∷ struct 3 (column_data column value_count size offset) ∷ []

-- RowGroup: its chunks, their size, the count of rows
abbrev pub row_group : List Value → ℕ → ℕ → Struct
row_group chunks size row_count = items 1 chunks ∷ long 2 size ∷ long 3 row_count ∷ []

-- the root's element, and those of the columns
abbrev pub elements : List Column → List Value
elements columns = values.Struct (root_element (length columns)) ∷ map (λ column. values.Struct (element column)) columns

-- FileMetaData: version 1, the schema's elements, the count of rows, one row group, "mdt" as the creator
abbrev pub file_data : List Value → Struct → ℕ → Struct
file_data elements group row_count =
    int 1 1 ∷ items 2 elements ∷ long 3 row_count ∷ items 4 (values.Struct group ∷ []) ∷ text 6 (codes "mdt") ∷ []

-- DataPageHeader: the count of values, PLAIN, RLE for the levels of both kinds
abbrev pub data_page_header : ℕ → Struct
data_page_header value_count = int 1 value_count ∷ int 2 0 ∷ int 3 3 ∷ int 4 3 ∷ []

-- PageHeader: DATA_PAGE, both sizes, its DataPageHeader
abbrev pub page_header : ℕ → ℕ → Struct
page_header value_count size = int 1 0 ∷ int 2 size ∷ int 3 size ∷ struct 5 (data_page_header value_count) ∷ []
