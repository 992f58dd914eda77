-- The structs of a file can be written.
use Rattle.std.proofs.Common.{◌≡◌, ℕ, pos, suc, ◌+◌, ◌^◌, ◌<◌, ◌≤◌, ◌&&◌, Bool, true, false, ltb, leb, List, [], ◌∷◌, length, map, length-append, refl, sym, ap, subst, ◌∙◌, arith, inl, inr}
use Rattle.std.proofs.lemmas.Int.{ints}
use Rattle.std.proofs.lemmas.Bool.{leb-true, ltb-true}
use Rattle.std.proofs.lemmas.List.Concat.{flat_map-cons}
use Rattle.std.specs.List.{AllByRecursion, list_all}
use Rattle.std.specs.Char.{is_ascii_alphabetic}
use Rattle.std.specs.Prelude.{slice_index}
use Rattle.mx_schema.specs.declared.column.Column.{Column}
use Rattle.mx_schema.specs.declared.column.ColumnKind.{ColumnKind}
use Rattle.mx_schema.specs.declared.column.ColumnKind.TheVariants as kinds
use Rattle.mx_schema.specs.Columns.{is_column_name, is_column_byte, IsSchema}
use Rattle.mx_thrift.specs.declared.value.Value.{Value}
use Rattle.mx_thrift.specs.declared.value.Value.TheVariants as values
use Rattle.mx_thrift.specs.declared.value.Field.{Field}
use Rattle.mx_thrift.specs.Encoding.{FieldsRise, IsWritableValue}
use Rattle.mx_thrift.proofs.Can.{can_int, can_long, can_bytes, can_list, can_struct, rise_by}
use Rattle.mx_parquet.specs.declared.row.FullRow.{FullRow}
use Rattle.mx_parquet.specs.Columns.{FilledColumn, hudi_names, columns_of, cells_at, filled_from, filled_columns}
use Rattle.mx_parquet.specs.Shape.{type_code, repetition_code, converted, element, root_element, column_data, column_chunk, row_group, elements, file_data, data_page_header, page_header}
use Rattle.mx_parquet.specs.Encoding.{chunk, chunks, chunk_structs}
use Rattle.mx_parquet.specs.Seen.{CanWrite}
use Rattle.mx_parquet.proofs.Cells.{columns_of-length}

and_left : (a b : Bool) → (a && b) ≡ true → a ≡ true
and_left true b e = refl
and_left false b e = absurd cc

and_right : (a b : Bool) → (a && b) ≡ true → b ≡ true
and_right true b e = e
and_right false b e = absurd cc

-- fields that can be written behind an id
record Rises (Inner : ℕ → Value → Type 0) (last : ℕ) (fields : List Field) : Type 0 where
  pub rises : FieldsRise Inner (pos last) fields

ends : (Inner : ℕ → Value → Type 0) (last : ℕ) → Rises Inner last []
ends Inner last = record { rises = tt }

-- ids that a short header can tell
abbrev is_step : ℕ → ℕ → Bool
is_step last gap = ltb 0 gap && (ltb gap 16 && ltb (last + gap) 100)

-- one field in front
rise : {rest : List Field} (Inner : ℕ → Value → Type 0) (last gap code : ℕ) (value : Value) → is_step last gap ≡ true → Inner code value → Rises Inner (last + gap) rest
    → Rises Inner last (record { id = pos (last + gap); value = value } ∷ rest)
rise {rest} Inner last gap code value step can more =
    let some = ltb-true 0 gap (and_left (ltb 0 gap) (ltb gap 16 && ltb (last + gap) 100) step) in
    let both = and_right (ltb 0 gap) (ltb gap 16 && ltb (last + gap) 100) step in
    let lt = ltb-true gap 16 (and_left (ltb gap 16) (ltb (last + gap) 100) both) in
    let small = ltb-true (last + gap) 100 (and_right (ltb gap 16) (ltb (last + gap) 100) both) in
    record {
      rises = rise_by Inner (pos last) (pos (last + gap)) gap code value (record { id = pos (last + gap); value = value }) rest refl some lt (omega (arith, ints)) (omega (arith, ints)) can more.rises;
    }

int_in : (depth n : ℕ) → n < 2 ^ 31 → IsWritableValue depth 5 (values.Int (pos n))
int_in depth n lt = can_int depth (pos n) (omega (arith, ints))

long_in : (depth n : ℕ) → n < 2 ^ 63 → IsWritableValue depth 6 (values.Long (pos n))
long_in depth n lt = can_long depth (pos n) (omega (arith, ints))

pub can_header : (value_count size : ℕ) → value_count < 2 ^ 31 → size < 2 ^ 31 → CanWrite (page_header value_count size)
unfolding CanWrite
can_header value_count size few small =
    let page = IsWritableValue 14 in
    let can = IsWritableValue 15 in
    let inside : FieldsRise page (pos 0) (data_page_header value_count) =
    (rise page 0 1 5 _ refl (int_in 14 value_count few)
    (rise page 1 1 5 _ refl (int_in 14 0 (omega arith))
    (rise page 2 1 5 _ refl (int_in 14 3 (omega arith))
    (rise page 3 1 5 _ refl (int_in 14 3 (omega arith)) (ends page 4))))).rises in
    (rise can 0 1 5 _ refl (int_in 15 0 (omega arith))
    (rise can 1 1 5 _ refl (int_in 15 size small)
    (rise can 2 1 5 _ refl (int_in 15 size small)
    (rise can 3 2 12 _ refl (can_struct 14 (data_page_header value_count) inside) (ends can 5))))).rises

map-length : {A B : Type 0} (f : A → B) (xs : List A) → length (map f xs) ≡ length xs
map-length f [] = refl
map-length f (x ∷ xs) = ap suc (map-length f xs)

-- ---- elements

type_small : (kind : ColumnKind) → type_code kind < 2 ^ 31
type_small kinds.Boolean = omega arith
type_small kinds.Int32 = omega arith
type_small kinds.Int64 = omega arith
type_small kinds.Text = omega arith

repetition_small : (nullable : Bool) → repetition_code nullable < 2 ^ 31
repetition_small true = omega arith
repetition_small false = omega arith

converted_in : (depth : ℕ) (kind : ColumnKind) → Rises (IsWritableValue depth) 4 (converted kind)
converted_in depth kinds.Boolean = ends (IsWritableValue depth) 4
converted_in depth kinds.Int32 = ends (IsWritableValue depth) 4
converted_in depth kinds.Int64 = ends (IsWritableValue depth) 4
converted_in depth kinds.Text = rise (IsWritableValue depth) 4 2 5 _ refl (int_in depth 0 (omega arith)) (ends (IsWritableValue depth) 6)

-- a column's name has a length of 31 bits
abbrev pub HasName : Column → Type 0
HasName c = length c.name < 2 ^ 31

element_in : (depth : ℕ) (c : Column) → HasName c → IsWritableValue (suc depth) 12 (values.Struct (element c))
element_in depth c name =
    let can = IsWritableValue depth in
    can_struct depth (element c)
    (rise can 0 1 5 _ refl (int_in depth (type_code c.kind) (type_small c.kind))
    (rise can 1 2 5 _ refl (int_in depth (repetition_code c.nullable) (repetition_small c.nullable))
    (rise can 3 1 8 _ refl (can_bytes depth c.name name) (converted_in depth c.kind)))).rises

elements_in : (depth : ℕ) (cs : List Column) → AllByRecursion HasName cs → AllByRecursion (IsWritableValue (suc depth) 12) (map (λ (c : Column). values.Struct (element c)) cs)
elements_in depth [] names = tt
elements_in depth (c ∷ cs) names = (element_in depth c names.0, elements_in depth cs names.1)

root_in : (depth count : ℕ) → count < 2 ^ 31 → IsWritableValue (suc depth) 12 (values.Struct (root_element count))
root_in depth count lt =
    let can = IsWritableValue depth in
    can_struct depth (root_element count)
    (rise can 0 4 8 _ refl (can_bytes depth (116 ∷ 97 ∷ 98 ∷ 108 ∷ 101 ∷ []) (omega arith))
    (rise can 4 1 5 _ refl (int_in depth count lt) (ends can 5))).rises

-- ---- chunks

column_data_in : (depth : ℕ) (c : Column) (value_count size offset : ℕ) → HasName c → value_count < 2 ^ 63 → size < 2 ^ 63 → offset < 2 ^ 63
    → IsWritableValue (suc (suc depth)) 12 (values.Struct (column_data c value_count size offset))
column_data_in depth c value_count size offset name few small near =
    let can = IsWritableValue (suc depth) in
    can_struct (suc depth) (column_data c value_count size offset)
    (rise can 0 1 5 _ refl (int_in (suc depth) (type_code c.kind) (type_small c.kind))
    (rise can 1 1 9 _ refl (can_list depth 5 (values.Int (pos 0) ∷ values.Int (pos 3) ∷ []) (inl refl) (omega arith) (int_in depth 0 (omega arith), (int_in depth 3 (omega arith), tt)))
    (rise can 2 1 9 _ refl (can_list depth 8 (values.Bytes c.name ∷ []) (inr (inr (inl refl))) (omega arith) (can_bytes depth c.name name, tt))
    (rise can 3 1 5 _ refl (int_in (suc depth) 0 (omega arith))
    (rise can 4 1 6 _ refl (long_in (suc depth) value_count few)
    (rise can 5 1 6 _ refl (long_in (suc depth) size small)
    (rise can 6 1 6 _ refl (long_in (suc depth) size small)
    (rise can 7 2 6 _ refl (long_in (suc depth) offset near) (ends can 9))))))))).rises

column_chunk_in : (depth : ℕ) (c : Column) (value_count size offset : ℕ) → HasName c → value_count < 2 ^ 63 → size < 2 ^ 63 → offset < 2 ^ 63
    → IsWritableValue (suc (suc (suc depth))) 12 (values.Struct (column_chunk c value_count size offset))
column_chunk_in depth c value_count size offset name few small near =
    let can = IsWritableValue (suc (suc depth)) in
    can_struct (suc (suc depth)) (column_chunk c value_count size offset)
    (rise can 0 2 6 _ refl (long_in (suc (suc depth)) offset near)
    (rise can 2 1 12 _ refl (column_data_in depth c value_count size offset name few small near) (ends can 3))).rises

-- a column whose name and whose count of cells can be written
abbrev pub HasCounts : FilledColumn → Type 0
HasCounts f = HasName f.column × (length f.cells < 2 ^ 63)

chunks_in : (depth offset : ℕ) (fs : List FilledColumn) → AllByRecursion HasCounts fs → offset + length (chunks fs) < 2 ^ 63 → AllByRecursion (IsWritableValue (suc (suc (suc depth))) 12) (chunk_structs offset fs)
chunks_in depth offset [] counts lt = tt
chunks_in depth offset (f ∷ fs) counts lt =
    let len : length (chunks (f ∷ fs)) ≡ length (chunk f) + length (chunks fs) = ap length (flat_map-cons chunk f fs) ∙ length-append (chunk f) (chunks fs) in (
      column_chunk_in depth f.column (length f.cells) (length (chunk f)) offset counts.0.0 counts.0.1 (omega (arith, len, lt)) (omega (arith, len, lt)),
      chunks_in depth (offset + length (chunk f)) fs counts.1 (omega (arith, len, lt)),
    )

-- ---- the footer

pub can_file : (cs : List Column) (structs : List Value) (size row_count : ℕ) → AllByRecursion HasName cs → length cs < 2 ^ 30 → length structs < 2 ^ 31 → size < 2 ^ 63 → row_count < 2 ^ 63
    → AllByRecursion (IsWritableValue 12 12) structs → CanWrite (file_data (elements cs) (row_group structs size row_count) row_count)
unfolding CanWrite
can_file cs structs size row_count names few fewer small counted can_each =
    let can = IsWritableValue 15 in
    let inner = IsWritableValue 13 in
    let group = row_group structs size row_count in
    let in_group : FieldsRise inner (pos 0) group =
    (rise inner 0 1 9 _ refl (can_list 12 12 structs (inr (inr (inr refl))) fewer can_each)
    (rise inner 1 1 6 _ refl (long_in 13 size small)
    (rise inner 2 1 6 _ refl (long_in 13 row_count counted) (ends inner 3)))).rises in
    (rise can 0 1 5 _ refl (int_in 15 1 (omega arith))
    (rise can 1 1 9 _ refl (can_list 14 12 (elements cs) (inr (inr (inr refl))) (omega (arith, map-length (λ (c : Column). values.Struct (element c)) cs)) (root_in 13 (length cs) (omega arith), elements_in 13 cs names))
    (rise can 2 1 6 _ refl (long_in 15 row_count counted)
    (rise can 3 1 9 _ refl (can_list 14 12 (values.Struct group ∷ []) (inr (inr (inr refl))) (omega arith) (can_struct 13 group in_group, tt))
    (rise can 4 2 8 _ refl (can_bytes 15 (109 ∷ 100 ∷ 116 ∷ []) (omega arith)) (ends can 6)))))).rises

-- ---- names

name_short : (name : List ℕ) → is_column_name name ≡ true → length name ≤ 63
unfolding is_column_name
name_short name e =
    let rest = is_ascii_alphabetic (slice_index name 0) && list_all is_column_byte name in
    leb-true (length name) 63 (and_left (leb (length name) 63) rest (and_right (ltb 0 (length name)) (leb (length name) 63 && rest) e))

schema_names : (cs : List Column) → list_all (λ column. is_column_name column.name) cs ≡ true → AllByRecursion HasName cs
schema_names [] e = tt
schema_names (c ∷ cs) e =
    let first = and_left (is_column_name c.name) (list_all (λ column. is_column_name column.name) cs) e in
    (omega (arith, name_short c.name first), schema_names cs (and_right (is_column_name c.name) (list_all (λ column. is_column_name column.name) cs) e))

pub names_fit : (schema : List Column) → IsSchema schema → AllByRecursion HasName (columns_of schema)
unfolding hudi_names
names_fit schema is =
    (omega arith, (omega arith, (omega arith, (omega arith, (omega arith, schema_names schema is.columns.each)))))

filled_fit : (first : ℕ) (cs : List Column) (rows : List FullRow) → AllByRecursion HasName cs → length rows < 2 ^ 63 → AllByRecursion HasCounts (filled_from first cs rows)
filled_fit first [] rows names few = tt
filled_fit first (c ∷ cs) rows names few = ((names.0, omega (arith, cells-length)), filled_fit (first + 1) cs rows names.1 few)
  where
    cells-length : length (cells_at first rows) ≡ length rows
    cells-length = map-length _ rows

pub can_footer : (schema : List Column) (rows : List FullRow) (structs : List Value) (size row_count : ℕ) → IsSchema schema → structs ≡ chunk_structs 4 (filled_columns schema rows) → length structs < 2 ^ 31 → length rows < 2 ^ 63
    → 4 + length (chunks (filled_columns schema rows)) < 2 ^ 63 → size < 2 ^ 63 → row_count < 2 ^ 63 → CanWrite (file_data (elements (columns_of schema)) (row_group structs size row_count) row_count)
can_footer schema rows structs size row_count is s fewer few near small counted =
    let names = names_fit schema is in
    can_file (columns_of schema) structs size row_count names (omega (arith, columns_of-length schema, is.columns.few)) fewer small counted
    (subst (λ (vs : List Value). AllByRecursion (IsWritableValue 12 12) vs) (sym s) (chunks_in 9 4 (filled_columns schema rows) (filled_fit 0 (columns_of schema) rows names few) near))
