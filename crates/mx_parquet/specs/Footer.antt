-- What a footer says: its columns, how many rows there are, and where the chunks of its row groups stand.
use Rattle.std.specs.Prelude.{ℕ, ◌+◌, ◌==◌, ◌&&◌, nat_eq, nat_le, ℤ, Bool, true, false, if◌then◌else◌, List, [], ◌∷◌, length, map, sum, Option, Some, None, Ok}
use Rattle.std.specs.Str.{is_utf8}
use lib.Pointwise.{pointwise}
use Rattle.mx_thrift.specs.declared.value.Value.{Value}
use Rattle.mx_schema.specs.declared.column.Column.{Column}
use Rattle.mx_schema.specs.declared.column.ColumnKind.{ColumnKind}
use Rattle.mx_schema.specs.declared.column.ColumnKind.TheVariants as kinds
use Rattle.mx_parquet.specs.declared.error.Feature.TheVariants as features
use Rattle.mx_parquet.specs.declared.layout.ChunkPlace.{ChunkPlace}
use Rattle.mx_parquet.specs.declared.layout.Group.{Group}
use Rattle.mx_parquet.specs.declared.layout.Layout.{Layout}
use Rattle.mx_parquet.specs.Decoding.{is_id, values_of}
use Rattle.mx_parquet.specs.Shape.{Struct, type_code}
use Rattle.mx_parquet.specs.Reading.{Read, ◌>>=◌, bad, unsupported, as_struct, as_bytes, int_in, maybe_int_in, long_in, bytes_in, struct_in, list_in, is_missing, count_of, each_in}

-- ---- the elements of columns

-- REQUIRED or OPTIONAL; what is REPEATED is nested
abbrev pub nullable_of : ℤ → Read Bool
nullable_of n =
    if is_id 0 n then Ok false
    else if is_id 1 n then Ok true
    else if is_id 2 n then unsupported features.Nested
    else bad

-- a column has no count of children, and is nested where it has children
abbrev pub childless : Option ℤ → Read ℤ → Read ℤ
childless None repetition = repetition
childless (Some count) repetition = if is_id 0 count then bad else unsupported features.Nested

-- whether an element of a column allows nulls
unfoldable pub nullable_in : Struct → Read Bool
nullable_in fields = maybe_int_in 5 fields >>= λ children. childless children (int_in 3 fields) >>= nullable_of

-- the kind of a type
abbrev pub kind_of : ℤ → Read ColumnKind
kind_of n =
    if is_id 0 n then Ok kinds.Boolean
    else if is_id 1 n then Ok kinds.Int32
    else if is_id 2 n then Ok kinds.Int64
    else if is_id 6 n then Ok kinds.Text
    else unsupported features.Kind

-- texts have the converted type UTF8, and the other kinds have none
abbrev pub converted : ColumnKind → Option ℤ → Read ColumnKind
converted kinds.Text (Some n) = if is_id 0 n then Ok kinds.Text else unsupported features.Converted
converted kinds.Text None = unsupported features.Converted
converted kind (Some n) = unsupported features.Converted
converted kind None = Ok kind

-- the kind of an element
unfoldable pub kind_in : Struct → Read ColumnKind
kind_in fields = int_in 1 fields >>= kind_of >>= λ kind. maybe_int_in 6 fields >>= converted kind

-- the text under a number
unfoldable pub text_in : ℕ → Struct → Read (List ℕ)
text_in id fields = bytes_in id fields >>= λ bytes. if is_utf8 bytes then Ok bytes else bad

-- the column of an element
unfoldable pub element_in : Struct → Read Column
element_in fields = do
  nullable ← nullable_in fields
  kind ← kind_in fields
  name ← text_in 4 fields
  Ok (record { name = name; kind = kind; nullable = nullable })

-- the column of a value that is an element
abbrev pub element_at : Value → Read Column
element_at value = as_struct value >>= element_in

-- how many columns stand below a root
unfoldable pub root_at : Value → Read ℕ
root_at value = do
  root ← as_struct value
  name ← bytes_in 4 root
  count ← int_in 5 root
  count_of count

-- the columns of elements, of which the first is the root
abbrev pub columns_below : List Value → Read (List Column)
columns_below [] = bad
columns_below (root ∷ elements) = root_at root >>= λ count. each_in element_at elements >>= λ columns. if length columns == count then Ok columns else bad

-- the columns of a footer
unfoldable pub columns_in : Struct → Read (List Column)
columns_in footer = list_in 12 2 footer >>= columns_below

-- ---- row groups

-- a type that has to be the one of a kind
abbrev pub typed : ColumnKind → ℤ → Read ColumnKind
typed kind n = kind_of n >>= λ found. if is_id (type_code kind) n then Ok found else bad

-- a path that has to be a name
abbrev pub named : List ℕ → List Value → Read (List ℕ)
named name [] = bad
named name (value ∷ []) = as_bytes value >>= λ text. if pointwise nat_eq text name then Ok text else bad
named name (value ∷ other ∷ more) = bad

-- no compression
abbrev pub uncompressed : ℤ → Read ℤ
uncompressed n = if is_id 0 n then Ok n else unsupported features.Codec

-- a count that has to be this one
abbrev pub counted : ℕ → ℤ → Read ℕ
counted wanted n = count_of n >>= λ count. if count == wanted then Ok count else bad

-- a chunk that has to lie in a file of a length
abbrev pub placed : ℕ → ℕ → ℕ → Read ChunkPlace
placed len offset size = if nat_le (offset + size) len then Ok (record { offset = offset; size = size }) else bad

-- where the chunk of a column stands, by its ColumnMetaData
unfoldable pub data_in : ℕ → ℕ → Column → Struct → Read ChunkPlace
data_in len row_count column fields = do
  code ← int_in 1 fields
  kind ← typed column.kind code
  encodings ← list_in 5 2 fields
  path ← list_in 8 3 fields
  name ← named column.name path
  codec ← int_in 4 fields
  plain ← uncompressed codec
  said ← long_in 5 fields
  count ← counted row_count said
  whole ← long_in 6 fields
  long_size ← long_in 7 fields
  size ← count_of long_size
  long_offset ← long_in 9 fields
  offset ← count_of long_offset
  if is_missing (values_of 11 fields) then placed len offset size else unsupported features.Page

-- where the chunk of a column stands
unfoldable pub chunk_at : ℕ → ℕ → Column → Value → Read ChunkPlace
chunk_at len row_count column value = do
  chunk ← as_struct value
  offset ← long_in 2 chunk
  fields ← struct_in 3 chunk
  data_in len row_count column fields

-- a chunk of each column
unfoldable pub chunks_in : ℕ → ℕ → List Column → List Value → Read (List ChunkPlace)
chunks_in len row_count [] [] = Ok []
chunks_in len row_count [] (value ∷ values) = bad
chunks_in len row_count (column ∷ columns) [] = bad
chunks_in len row_count (column ∷ columns) (value ∷ values) =
    chunk_at len row_count column value >>= λ place. chunks_in len row_count columns values >>= λ places. Ok (place ∷ places)

-- a row group
unfoldable pub group_at : ℕ → List Column → Value → Read Group
group_at len columns value = do
  group ← as_struct value
  chunks ← list_in 12 1 group
  size ← long_in 2 group
  count ← long_in 3 group
  row_count ← count_of count
  places ← chunks_in len row_count columns chunks
  Ok (record { row_count = row_count; chunks = places })

-- ---- the whole

-- how many rows groups have
abbrev pub rows_in : List Group → ℕ
rows_in groups = sum (map (λ group. group.row_count) groups)

-- groups have so many rows, and a file may have them
abbrev pub has_rows : ℕ → List Group → Bool
has_rows row_count groups = nat_le row_count 16_384 && rows_in groups == row_count

-- what the footer of a file of a length says
unfoldable pub layout_in : ℕ → Struct → Read Layout
layout_in len footer = do
  version ← int_in 1 footer
  columns ← columns_in footer
  count ← long_in 3 footer
  row_count ← count_of count
  items ← list_in 12 4 footer
  groups ← each_in (group_at len columns) items
  if has_rows row_count groups then Ok (record { columns = columns; row_count = row_count; groups = groups }) else bad
