-- Chunks, what the footer says of them, and the whole file, column by column.
use Rattle.std.proofs.Common.{◌≡◌, ℕ, pos, zero, suc, ◌+◌, ◌-◌, ◌*◌, ◌^◌, ◌≤◌, List, [], ◌∷◌, ◌++◌, length, take, drop, map, flat_map, min, append-nil, append_assoc, length-append, refl, sym, ap, ◌∙◌, arith, Some}
use Rattle.std.specs.List.{slice_get}
use Rattle.std.specs.Int.{w32}
use Rattle.std.proofs.lemmas.List.{take_all, take-append-drop, map_push}
use Rattle.std.proofs.lemmas.List.Concat.{flat_map-append, flat_map-cons}
use Rattle.mx_avro.specs.Encoding.{long_encoding}
use Rattle.mx_schema.specs.declared.column.Column.{Column}
use Rattle.mx_thrift.specs.declared.value.Value.{Value}
use Rattle.mx_thrift.specs.declared.value.Value.TheVariants as values
use Rattle.mx_thrift.specs.Encoding.{list_head, written_value}
use Rattle.mx_parquet.specs.declared.row.FullRow.{FullRow}
use Rattle.mx_parquet.specs.Columns.{FilledColumn, cells_at, columns_of, filled_from, filled_columns}
use Rattle.mx_parquet.specs.Pages.{number, page}
use Rattle.mx_parquet.specs.Shape.{Struct, struct_bytes, root_element, element, column_chunk, row_group, elements, file_data, page_header}
use Rattle.mx_parquet.specs.Encoding.{magic, chunk, chunks, chunk_structs, footer, encoding}
use Rattle.mx_parquet.proofs.Numbers.{number32-length, groups_small, long_small}
use Rattle.mx_parquet.proofs.Structs.{value_len, items_len, struct-len, len-Int, len-Long, len-Bytes, len-Struct, len-List, column_chunk-cap}
use Rattle.mx_parquet.proofs.Cells.{columns_of-length}

-- ---- one more column

pub take_next : {A : Type 0} (xs : List A) (i : ℕ) (x : A) → slice_get xs i ≡ Some x → take (i + 1) xs ≡ take i xs ++ x ∷ []
take_next [] i x e = absurd cc
take_next (y ∷ xs) zero x e = cc
take_next (y ∷ xs) (suc i) x e =
    let f : suc i + 1 ≡ suc (i + 1) = omega arith in
    ap (λ (k : ℕ). take k (y ∷ xs)) f ∙ ap (λ (r : List _). y ∷ r) (take_next xs i x e)

filled_next : (first place : ℕ) (cs : List Column) (rows : List FullRow) (c : Column) → slice_get cs place ≡ Some c
    → slice_get (filled_from first cs rows) place ≡ Some (record { column = c; cells = cells_at (first + place) rows })
filled_next first place [] rows c e = absurd cc
filled_next first zero (d ∷ cs) rows c e =
    let same : d ≡ c = cc in
    let at : first ≡ first + 0 = omega arith in
    ap (λ (x : Column). Some (record { column = x; cells = cells_at first rows })) same ∙ ap (λ (k : ℕ). Some (record { column = c; cells = cells_at k rows })) at
filled_next first (suc place) (d ∷ cs) rows c e =
    let at : first + 1 + place ≡ first + suc place = omega arith in
    filled_next (first + 1) place cs rows c e ∙ ap (λ (k : ℕ). Some (record { column = c; cells = cells_at k rows })) at

pub filled_more : (schema : List Column) (rows : List FullRow) (place : ℕ) (c : Column) → slice_get (columns_of schema) place ≡ Some c
    → take (place + 1) (filled_columns schema rows) ≡ take place (filled_columns schema rows) ++ record { column = c; cells = cells_at place rows } ∷ []
filled_more schema rows place c e =
    let at : 0 + place ≡ place = omega arith in
    take_next (filled_columns schema rows) place (record { column = c; cells = cells_at place rows })
    (filled_next 0 place (columns_of schema) rows c e ∙ ap (λ (k : ℕ). Some (record { column = c; cells = cells_at k rows })) at)

filled-length : (first : ℕ) (cs : List Column) (rows : List FullRow) → length (filled_from first cs rows) ≡ length cs
filled-length first [] rows = refl
filled-length first (c ∷ cs) rows = ap suc (filled-length (first + 1) cs rows)

pub filled_columns-length : (schema : List Column) (rows : List FullRow) → length (filled_columns schema rows) ≡ length (columns_of schema)
filled_columns-length schema rows = filled-length 0 (columns_of schema) rows

-- ---- chunks

chunks-more : (fs gs : List FilledColumn) (f : FilledColumn) → gs ≡ fs ++ f ∷ [] → chunks gs ≡ chunks fs ++ chunk f
chunks-more fs gs f e =
    ap chunks e ∙ flat_map-append chunk fs (f ∷ []) ∙ ap (λ (r : List ℕ). chunks fs ++ r) (flat_map-cons chunk f [] ∙ append-nil (chunk f))

pub chunks-length : (fs gs : List FilledColumn) (f : FilledColumn) → gs ≡ fs ++ f ∷ [] → length (chunks gs) ≡ length (chunks fs) + length (chunk f)
chunks-length fs gs f e = ap length (chunks-more fs gs f e) ∙ length-append (chunks fs) (chunk f)

pub chunks_put : (fs gs : List FilledColumn) (f : FilledColumn) (old mid put : List ℕ) → gs ≡ fs ++ f ∷ [] → mid ≡ old ++ chunks fs → put ≡ mid ++ chunk f → put ≡ old ++ chunks gs
chunks_put fs gs f old mid put e m p =
    p ∙ ap (λ (x : List ℕ). x ++ chunk f) m ∙ append_assoc old (chunks fs) (chunk f) ∙ ap (λ (x : List ℕ). old ++ x) (sym (chunks-more fs gs f e))

pub chunks-within : (fs : List FilledColumn) (n : ℕ) → length (chunks (take n fs)) ≤ length (chunks fs)
chunks-within fs n =
    omega (arith, ap (λ (x : List FilledColumn). length (chunks x)) (sym (take-append-drop n fs)), ap length (flat_map-append chunk (take n fs) (drop n fs)), length-append (chunks (take n fs)) (chunks (drop n fs)))

-- what the footer says of a chunk that begins at an offset
abbrev pub said : ℕ → FilledColumn → Value
said offset f = values.Struct (column_chunk f.column (length f.cells) (length (chunk f)) offset)

chunk_structs-more : (offset : ℕ) (fs : List FilledColumn) (f : FilledColumn) → chunk_structs offset (fs ++ f ∷ []) ≡ chunk_structs offset fs ++ said (offset + length (chunks fs)) f ∷ []
chunk_structs-more offset [] f = let at : offset ≡ offset + 0 = omega arith in ap (λ (k : ℕ). said k f ∷ []) at
chunk_structs-more offset (g ∷ fs) f =
    let at : offset + length (chunk g) + length (chunks fs) ≡ offset + length (chunks (g ∷ fs)) = omega (arith, ap length (flat_map-cons chunk g fs), length-append (chunk g) (chunks fs)) in
    ap (λ (vs : List Value). said offset g ∷ vs) (chunk_structs-more (offset + length (chunk g)) fs f ∙ ap (λ (k : ℕ). chunk_structs (offset + length (chunk g)) fs ++ said k f ∷ []) at)

pub said_more : (offset : ℕ) (fs gs : List FilledColumn) (f : FilledColumn) → gs ≡ fs ++ f ∷ [] → chunk_structs offset gs ≡ chunk_structs offset fs ++ said (offset + length (chunks fs)) f ∷ []
said_more offset fs gs f e = ap (chunk_structs offset) e ∙ chunk_structs-more offset fs f

-- ---- lengths

pub items-bytes : (vs : List Value) → length (flat_map (λ (v : Value). (written_value v).1) vs) ≡ items_len vs
items-bytes [] = refl
items-bytes (v ∷ vs) = omega (arith, items-bytes vs, length-append (written_value v).1 (flat_map (λ (v : Value). (written_value v).1) vs))

items_len-more : (vs : List Value) (v : Value) → items_len (vs ++ v ∷ []) ≡ items_len vs + value_len v
items_len-more [] v = omega arith
items_len-more (w ∷ vs) v = omega (arith, items_len-more vs v)

pub structs-length : (vs ws : List Value) (s : Struct) → ws ≡ vs ++ values.Struct s ∷ []
    → length (flat_map (λ (v : Value). (written_value v).1) ws) ≡ length (flat_map (λ (v : Value). (written_value v).1) vs) + length (struct_bytes s)
structs-length vs ws s e =
    omega (arith, items-bytes ws, items-bytes vs, ap items_len e, items_len-more vs (values.Struct s), len-Struct s, struct-len s)

pub elements-length : (cs ds : List Column) (c : Column) → ds ≡ cs ++ c ∷ []
    → length (flat_map (λ (c : Column). struct_bytes (element c)) ds) ≡ length (flat_map (λ (c : Column). struct_bytes (element c)) cs) + length (struct_bytes (element c))
elements-length cs ds c e =
    ap (λ (x : List Column). length (flat_map (λ (c : Column). struct_bytes (element c)) x)) e
    ∙ ap length (flat_map-append (λ (c : Column). struct_bytes (element c)) cs (c ∷ []) ∙ ap (λ (r : List ℕ). flat_map (λ (c : Column). struct_bytes (element c)) cs ++ r) (append-nil (struct_bytes (element c))))
    ∙ length-append (flat_map (λ (c : Column). struct_bytes (element c)) cs) (struct_bytes (element c))

elements-items : (cs : List Column) → items_len (map (λ (c : Column). values.Struct (element c)) cs) ≡ length (flat_map (λ (c : Column). struct_bytes (element c)) cs)
elements-items [] = refl
elements-items (c ∷ cs) =
    omega (arith, elements-items cs, len-Struct (element c), struct-len (element c), length-append (struct_bytes (element c)) (flat_map (λ (c : Column). struct_bytes (element c)) cs))

map-length : {A B : Type 0} (f : A → B) (xs : List A) → length (map f xs) ≡ length xs
map-length f [] = refl
map-length f (x ∷ xs) = ap suc (map-length f xs)

pub file_data-length : (cs : List Column) (structs : List Value) (size row_count : ℕ) → length (struct_bytes (file_data (elements cs) (row_group structs size row_count) row_count))
    ≡ 16 + length (list_head 12 (1 + length cs)) + length (struct_bytes (root_element (length cs))) + length (flat_map (λ (c : Column). struct_bytes (element c)) cs)
    + 2 * length (long_encoding (pos row_count)) + length (list_head 12 (length structs)) + length (flat_map (λ (v : Value). (written_value v).1) structs) + length (long_encoding (pos size))
file_data-length cs structs size row_count =
    let group = row_group structs size row_count in
    let count : length (elements cs) ≡ 1 + length cs = omega (arith, map-length (λ (c : Column). values.Struct (element c)) cs) in
    let head : length (list_head 12 (length (elements cs))) ≡ length (list_head 12 (1 + length cs)) = ap (λ (n : ℕ). length (list_head 12 n)) count in
    let one : length (list_head 12 1) ≡ 1 = refl in
    omega (
      arith,
      struct-len (file_data (elements cs) group row_count),
      len-Int 1,
      long_small 1 (omega arith),
      len-List 12 (elements cs),
      head,
      len-Struct (root_element (length cs)),
      struct-len (root_element (length cs)),
      elements-items cs,
      len-Long row_count,
      len-List 12 (values.Struct group ∷ []),
      one,
      len-Struct group,
      len-List 12 structs,
      items-bytes structs,
      len-Long size,
      len-Bytes (109 ∷ 100 ∷ 116 ∷ []),
      groups_small 9 3 (omega arith),
    )

pub magic-length : length magic ≡ 4
unfolding magic
magic-length = refl

pub encoding-length : (schema : List Column) (rows : List FullRow) → length (encoding schema rows) ≡ 12 + length (chunks (filled_columns schema rows)) + length (footer schema rows)
unfolding encoding
encoding-length schema rows =
    let data' = chunks (filled_columns schema rows) in
    let foot = footer schema rows in
    omega (
      arith,
      length-append (magic ++ data' ++ foot ++ number w32 (length foot)) magic,
      length-append (magic ++ data' ++ foot) (number w32 (length foot)),
      length-append (magic ++ data') foot,
      length-append magic data',
      magic-length,
      number32-length (length foot),
    )

pub chunk_structs-length : (offset : ℕ) (fs : List FilledColumn) → length (chunk_structs offset fs) ≡ length fs
chunk_structs-length offset [] = refl
chunk_structs-length offset (f ∷ fs) = ap suc (chunk_structs-length (offset + length (chunk f)) fs)

pub chunk-length : (f : FilledColumn) → length (chunk f) ≡ length (struct_bytes (page_header (length f.cells) (length (page f)))) + length (page f)
chunk-length f = length-append (struct_bytes (page_header (length f.cells) (length (page f)))) (page f)

-- where numbers stand for longer ones
pub said-length : (c : Column) (cell_count row_count size len offset at : ℕ) → cell_count ≡ row_count → size ≡ min len (2 ^ 64 - 1) → offset ≡ min at (2 ^ 64 - 1)
    → length (struct_bytes (column_chunk c row_count size offset)) ≡ length (struct_bytes (column_chunk c cell_count len at))
said-length c cell_count row_count size len offset at n s o =
    ap (λ (k : ℕ). length (struct_bytes (column_chunk c k size offset))) (sym n) ∙ ap (λ (k : ℕ). length (struct_bytes (column_chunk c cell_count k offset))) s
    ∙ ap (λ (k : ℕ). length (struct_bytes (column_chunk c cell_count (min len (2 ^ 64 - 1)) k))) o ∙ column_chunk-cap c cell_count len at

pub file-length : (schema : List Column) (rows : List FullRow) (count : ℕ) → count ≡ 5 + length schema → length (encoding schema rows)
    ≡ 28 + length (list_head 12 (1 + count)) + length (struct_bytes (root_element count)) + length (flat_map (λ (c : Column). struct_bytes (element c)) (columns_of schema))
    + 2 * length (long_encoding (pos (length rows))) + length (list_head 12 count) + length (flat_map (λ (v : Value). (written_value v).1) (chunk_structs 4 (filled_columns schema rows)))
    + length (long_encoding (pos (length (chunks (filled_columns schema rows))))) + length (chunks (filled_columns schema rows))
file-length schema rows count is =
    let all = filled_columns schema rows in
    let structs = chunk_structs 4 all in
    let columns : length (columns_of schema) ≡ count = columns_of-length schema ∙ sym is in
    let items : length structs ≡ count = chunk_structs-length 4 all ∙ filled_columns-length schema rows ∙ columns in
    omega (
      arith,
      encoding-length schema rows,
      file_data-length (columns_of schema) structs (length (chunks all)) (length rows),
      ap (λ (n : ℕ). length (list_head 12 (1 + n))) columns,
      ap (λ (n : ℕ). length (struct_bytes (root_element n))) columns,
      ap (λ (n : ℕ). length (list_head 12 n)) items,
    )

-- ---- what loops put

pub structs_put : (offset : ℕ) (fs gs : List FilledColumn) (f : FilledColumn) (structs new : List Value) (s : Struct) → gs ≡ fs ++ f ∷ [] → structs ≡ chunk_structs offset fs → new ≡ structs ++ values.Struct s ∷ []
    → s ≡ column_chunk f.column (length f.cells) (length (chunk f)) (offset + length (chunks fs)) → new ≡ chunk_structs offset gs
structs_put offset fs gs f structs new s e so_far n is =
    n ∙ ap (λ (vs : List Value). vs ++ values.Struct s ∷ []) so_far ∙ ap (λ (x : Struct). chunk_structs offset fs ++ values.Struct x ∷ []) is ∙ sym (said_more offset fs gs f e)

pub said_is : (c : Column) (row_count cell_count size len offset at : ℕ) (s : Struct) → s ≡ column_chunk c row_count size offset → row_count ≡ cell_count → size ≡ len → offset ≡ at → s ≡ column_chunk c cell_count len at
said_is c row_count cell_count size len offset at s is n z o =
    is ∙ ap (λ (k : ℕ). column_chunk c k size offset) n ∙ ap (λ (k : ℕ). column_chunk c cell_count k offset) z ∙ ap (λ (k : ℕ). column_chunk c cell_count len k) o

pub cells-length : (place : ℕ) (rows : List FullRow) → length (cells_at place rows) ≡ length rows
cells-length place rows = map-length _ rows

pub elements_begin : (schema : List Column) (root : Struct) (items new : List Value) → items ≡ [] → new ≡ items ++ values.Struct root ∷ [] → root ≡ root_element (5 + length schema)
    → new ≡ values.Struct (root_element (length (columns_of schema))) ∷ []
elements_begin schema root items new none n is =
    n ∙ ap (λ (vs : List Value). vs ++ values.Struct root ∷ []) none ∙ ap (λ (x : Struct). values.Struct x ∷ []) (is ∙ ap root_element (sym (columns_of-length schema)))

pub elements_more : (schema : List Column) (place : ℕ) (c : Column) (e : Struct) (items new : List Value) → slice_get (columns_of schema) place ≡ Some c → e ≡ element c
    → items ≡ values.Struct (root_element (length (columns_of schema))) ∷ map (λ (c : Column). values.Struct (element c)) (take place (columns_of schema)) → new ≡ items ++ values.Struct e ∷ []
    → new ≡ values.Struct (root_element (length (columns_of schema))) ∷ map (λ (c : Column). values.Struct (element c)) (take (place + 1) (columns_of schema))
elements_more schema place c e items new at is so_far n =
    let root = values.Struct (root_element (length (columns_of schema))) in
    n ∙ ap (λ (vs : List Value). vs ++ values.Struct e ∷ []) so_far
    ∙ ap (λ (x : Struct). root ∷ (map (λ (c : Column). values.Struct (element c)) (take place (columns_of schema)) ++ values.Struct x ∷ [])) is
    ∙ ap (λ (vs : List Value). root ∷ vs) (sym (ap (map (λ (c : Column). values.Struct (element c))) (take_next (columns_of schema) place c at) ∙ map_push (λ (c : Column). values.Struct (element c)) (take place (columns_of schema)) c))

pub all_columns : (schema : List Column) (place : ℕ) → 5 + length schema ≤ place → take place (columns_of schema) ≡ columns_of schema
all_columns schema place le = take_all place (columns_of schema) (omega (arith, columns_of-length schema))

pub all_filled : (schema : List Column) (rows : List FullRow) (place : ℕ) → 5 + length schema ≤ place → take place (filled_columns schema rows) ≡ filled_columns schema rows
all_filled schema rows place le = take_all place (filled_columns schema rows) (omega (arith, filled_columns-length schema rows, columns_of-length schema))

-- ---- the footer and the file, put together

pub footer_put : (old mid long new foot : List ℕ) (bytes len : List ℕ) → mid ≡ old ++ bytes → bytes ≡ foot → long ≡ mid ++ len → len ≡ number w32 (length foot) → new ≡ long ++ magic
    → new ≡ old ++ (foot ++ number w32 (length foot) ++ magic)
footer_put old mid long new foot bytes len m b l n e =
    let tail = number w32 (length foot) in
    e ∙ ap (λ (x : List ℕ). x ++ magic) (l ∙ ap (λ (x : List ℕ). x ++ len) (m ∙ ap (λ (x : List ℕ). old ++ x) b) ∙ ap (λ (x : List ℕ). (old ++ foot) ++ x) n)
    ∙ ap (λ (x : List ℕ). x ++ magic) (append_assoc old foot tail) ∙ append_assoc old (foot ++ tail) magic

pub footer-is : (schema : List Column) (rows : List FullRow) (structs : List Value) (size row_count : ℕ) → structs ≡ chunk_structs 4 (filled_columns schema rows) → size ≡ length (chunks (filled_columns schema rows)) → row_count ≡ length rows
    → struct_bytes (file_data (elements (columns_of schema)) (row_group structs size row_count) row_count) ≡ footer schema rows
footer-is schema rows structs size row_count s z n =
    ap (λ (x : List Value). struct_bytes (file_data (elements (columns_of schema)) (row_group x size row_count) row_count)) s
    ∙ ap (λ (x : ℕ). struct_bytes (file_data (elements (columns_of schema)) (row_group (chunk_structs 4 (filled_columns schema rows)) x row_count) row_count)) z
    ∙ ap (λ (x : ℕ). struct_bytes (file_data (elements (columns_of schema)) (row_group (chunk_structs 4 (filled_columns schema rows)) (length (chunks (filled_columns schema rows))) x) x)) n

pub assembled : (schema : List Column) (rows : List FullRow) (old out : List ℕ) → old ≡ magic ++ chunks (filled_columns schema rows)
    → out ≡ old ++ (footer schema rows ++ number w32 (length (footer schema rows)) ++ magic) → out ≡ encoding schema rows
unfolding encoding
assembled schema rows old out o e =
    let foot = footer schema rows in
    let len = number w32 (length foot) in
    let front = magic ++ chunks (filled_columns schema rows) in
    e ∙ ap (λ (x : List ℕ). x ++ (foot ++ len ++ magic)) o ∙ sym (append_assoc front (foot ++ len) magic) ∙ ap (λ (x : List ℕ). x ++ magic) (sym (append_assoc front foot len))
