-- The file of rows holds its rows.
use Rattle.std.proofs.Common.{◌≡◌, ℕ, pos, zero, suc, ◌+◌, ◌^◌, ◌<◌, ◌≤◌, Bool, List, [], ◌∷◌, ◌++◌, length, get_or, take, drop, map, append-nil, append_assoc, length-append, refl, sym, ap, subst, ◌∙◌, arith}
use Rattle.std.specs.Int.{w32}
use Rattle.std.specs.List.{AllByRecursion, AllZip}
use Rattle.std.proofs.lemmas.List.{take_at, drop_at}
use Rattle.std.proofs.lemmas.List.Concat.{flat_map-cons}
use Rattle.mx_schema.specs.declared.cell.Cell.{Cell}
use Rattle.mx_schema.specs.declared.cell.Cell.TheVariants as cells
use Rattle.mx_schema.specs.declared.column.Column.{Column}
use Rattle.mx_schema.specs.declared.column.ColumnKind.{ColumnKind}
use Rattle.mx_schema.specs.declared.column.ColumnKind.TheVariants as kinds
use Rattle.mx_schema.specs.Columns.{IsSchema}
use Rattle.mx_thrift.specs.declared.value.Value.{Value}
use Rattle.mx_thrift.specs.declared.value.Value.TheVariants as values
use Rattle.mx_thrift.specs.Grammar as thrift
use Rattle.mx_thrift.proofs.Written as thrift_written
use Rattle.mx_parquet.specs.declared.row.FullRow.{FullRow}
use Rattle.mx_parquet.specs.Columns.{FilledColumn, hudi_names, columns_of, row_cells, cells_at, filled_from, filled_columns}
use Rattle.mx_parquet.specs.Pages.{number, page}
use Rattle.mx_parquet.specs.Shape.{Struct, struct_bytes, element, root_element, elements, column_data, column_chunk, file_data, data_page_header, page_header}
use Rattle.mx_parquet.specs.Encoding.{magic, chunk, chunks, chunk_structs, group_of, footer, encoding}
use Rattle.mx_parquet.specs.Fits.{IsCellOf, FitsRow, IsEncoded, HasTexts}
use Rattle.mx_parquet.specs.Seen.{CanWrite}
use Rattle.mx_parquet.specs.Decoding.{IsHeldBy, IsPageHeader, FoundPage, IsFoundPage, ArePages, IsElement, AreChunks, IsGroup, table_of, IsFullRow, IsFooter, Decodes}
use Rattle.mx_parquet.proofs.Again.{page_again}
use Rattle.mx_parquet.proofs.Cells.{columns_of-length}
use Rattle.mx_parquet.proofs.Files.{magic-length, encoding-length, chunk-length, chunk_structs-length, filled_columns-length, cells-length}
use Rattle.mx_parquet.proofs.Writable.{can_header, can_footer}

-- ---- structs

read_again : (fields : Struct) → CanWrite fields → thrift.Decodes (struct_bytes fields) fields
unfolding CanWrite struct_bytes
read_again fields can = thrift_written.written_decodes fields can

header_again : (value_count size : ℕ) → IsPageHeader (page_header value_count size) value_count size
header_again value_count size = record {
  data_page = refl;
  uncompressed = refl;
  compressed = refl;
  inner = data_page_header value_count;
  inside = refl;
  counted = refl;
  encoding = refl;
  definition = refl;
  repetition = refl;
}

element_of : (name : List ℕ) (kind : ColumnKind) (nullable : Bool) → IsElement (record { name = name; kind = kind; nullable = nullable }) (element (record { name = name; kind = kind; nullable = nullable }))
element_of name kinds.Boolean nullable = record { typed = refl; repeated = refl; named = refl; leaf = refl; converted = refl }
element_of name kinds.Int32 nullable = record { typed = refl; repeated = refl; named = refl; leaf = refl; converted = refl }
element_of name kinds.Int64 nullable = record { typed = refl; repeated = refl; named = refl; leaf = refl; converted = refl }
element_of name kinds.Text nullable = record { typed = refl; repeated = refl; named = refl; leaf = refl; converted = refl }

elements_again : (cs : List Column) → AllZip IsElement cs (map element cs)
elements_again [] = tt
elements_again (c ∷ cs) = (element_of c.name c.kind c.nullable, elements_again cs)

elements-map : (cs : List Column) → map (λ (c : Column). values.Struct (element c)) cs ≡ map values.Struct (map element cs)
elements-map [] = refl
elements-map (c ∷ cs) = ap (λ (vs : List Value). values.Struct (element c) ∷ vs) (elements-map cs)

-- ---- chunks

-- each cell of a column can be held by it
abbrev Held : FilledColumn → Type 0
Held f = AllByRecursion (IsHeldBy f.column) f.cells

chunk_again : (f : FilledColumn) → Held f → length (page f) < 2 ^ 31 → length f.cells < 2 ^ 31 → ArePages f.column (chunk f) f.cells
chunk_again f held short few =
    let head = page_header (length f.cells) (length (page f)) in
    let found : FoundPage = record { header = struct_bytes head; fields = head; body = page f; held = f.cells } in
    let is : IsFoundPage f.column found = record {
      said = read_again head (can_header (length f.cells) (length (page f)) few short);
      headed = header_again (length f.cells) (length (page f));
      is_page = page_again f held (omega (arith, short)) (omega (arith, few));
    } in
    record { pages = found ∷ []; each = (is, tt); fill = sym (append-nil (chunk f)); all = sym (append-nil f.cells) }

abbrev said_structs : ℕ → List FilledColumn → List Struct
said_structs offset [] = []
said_structs offset (f ∷ fs) = column_chunk f.column (length f.cells) (length (chunk f)) offset ∷ said_structs (offset + length (chunk f)) fs

said_structs-map : (offset : ℕ) (fs : List FilledColumn) → chunk_structs offset fs ≡ map values.Struct (said_structs offset fs)
said_structs-map offset [] = refl
said_structs-map offset (f ∷ fs) =
    ap (λ (vs : List Value). values.Struct (column_chunk f.column (length f.cells) (length (chunk f)) offset) ∷ vs) (said_structs-map (offset + length (chunk f)) fs)

chunks_again : (file front back : List ℕ) (fs : List FilledColumn) → file ≡ front ++ (chunks fs ++ back) → AllByRecursion Held fs → AllByRecursion (λ (f : FilledColumn). length f.cells < 2 ^ 31) fs → length file < 2 ^ 31
    → AreChunks file (map (λ (f : FilledColumn). f.column) fs) (said_structs (length front) fs) (map (λ (f : FilledColumn). f.cells) fs)
chunks_again file front back [] parts held few short = tt
chunks_again file front back (f ∷ fs) parts held few short =
    let rest = chunks fs ++ back in
    let one : chunks (f ∷ fs) ≡ chunk f ++ chunks fs = flat_map-cons chunk f fs in
    let here : file ≡ front ++ (chunk f ++ rest) = parts ∙ ap (λ (x : List ℕ). front ++ (x ++ back)) one ∙ ap (λ (x : List ℕ). front ++ x) (append_assoc (chunk f) (chunks fs) back) in
    let behind : file ≡ (front ++ chunk f) ++ rest = here ∙ sym (append_assoc front (chunk f) rest) in
    let len : length file ≡ length front + (length (chunk f) + length rest) = ap length here ∙ length-append front (chunk f ++ rest) ∙ ap (λ (n : ℕ). length front + n) (length-append (chunk f) rest) in
    let cut : take (length (chunk f)) (drop (length front) file) ≡ chunk f =
    ap (λ (x : List ℕ). take (length (chunk f)) (drop (length front) x)) here ∙ ap (take (length (chunk f))) (drop_at front (chunk f ++ rest) (length front) refl) ∙ take_at (chunk f) rest (length (chunk f)) refl in
    let small : length (page f) < 2 ^ 31 = omega (arith, chunk-length f, len, short) in (
      record {
        file_offset = pos (length front);
        offset_said = refl;
        encodings = values.Int (pos 0) ∷ values.Int (pos 3) ∷ [];
        encoded = refl;
        whole = pos (length (chunk f));
        whole_said = refl;
        inner = column_data f.column (length f.cells) (length (chunk f)) (length front);
        inside = refl;
        typed = refl;
        named = refl;
        plain_codec = refl;
        counted = refl;
        size = length (chunk f);
        offset = length front;
        sized = refl;
        placed = refl;
        no_dictionary = refl;
        within = omega (arith, len);
        pages = subst (λ (b : List ℕ). ArePages f.column b f.cells) (sym cut) (chunk_again f held.0 small few.0);
      },
      subst (λ (n : ℕ). AreChunks file (map (λ (f : FilledColumn). f.column) fs) (said_structs n fs) (map (λ (f : FilledColumn). f.cells) fs)) (length-append front (chunk f))
          (chunks_again file (front ++ chunk f) back fs behind held.1 few.1 short),
    )

-- ---- the cells of rows

zip_at : {A B : Type 0} (R : A → B → Type 0) (c : A) (cs : List A) (xs : List B) (n : ℕ) (d : B) → AllZip R (c ∷ cs) (drop n xs) → R c (get_or xs n d) × AllZip R cs (drop (n + 1) xs)
zip_at R c cs [] zero d zip = absurd zip
zip_at R c cs [] (suc n) d zip = absurd zip
zip_at R c cs (x ∷ xs) zero d zip = zip
zip_at R c cs (x ∷ xs) (suc n) d zip =
    let k : suc n + 1 ≡ suc (n + 1) = omega arith in
    let r = zip_at R c cs xs n d zip in
    (r.0, subst (λ (j : ℕ). AllZip R cs (drop j (x ∷ xs))) (sym k) r.1)

-- each row has cells that these columns can hold, from a place on
abbrev HeldFrom : ℕ → List Column → List FullRow → Type 0
HeldFrom place cs rows = AllByRecursion (λ (row : FullRow). AllZip IsHeldBy cs (drop place (row_cells row))) rows

first_held : (place : ℕ) (c : Column) (cs : List Column) (rows : List FullRow) → HeldFrom place (c ∷ cs) rows → AllByRecursion (IsHeldBy c) (cells_at place rows)
first_held place c cs [] held = tt
first_held place c cs (row ∷ rows) held = ((zip_at IsHeldBy c cs (row_cells row) place cells.Null held.0).0, first_held place c cs rows held.1)

others_held : (place : ℕ) (c : Column) (cs : List Column) (rows : List FullRow) → HeldFrom place (c ∷ cs) rows → HeldFrom (place + 1) cs rows
others_held place c cs [] held = tt
others_held place c cs (row ∷ rows) held = ((zip_at IsHeldBy c cs (row_cells row) place cells.Null held.0).1, others_held place c cs rows held.1)

filled_held : (place : ℕ) (cs : List Column) (rows : List FullRow) → HeldFrom place cs rows → AllByRecursion Held (filled_from place cs rows)
filled_held place [] rows held = tt
filled_held place (c ∷ cs) rows held = (first_held place c cs rows held, filled_held (place + 1) cs rows (others_held place c cs rows held))

cell_held : (c : Column) (x : Cell) → IsCellOf c x → IsEncoded x → IsHeldBy c x
cell_held c cells.Null is text = is
cell_held c (cells.Flag flag) is text = is
cell_held c (cells.Small n) is text = is
cell_held c (cells.Whole n) is text = is
cell_held c (cells.Text t) is text = (is.0, text)

cells_held : (cs : List Column) (xs : List Cell) → AllZip IsCellOf cs xs → AllByRecursion IsEncoded xs → AllZip IsHeldBy cs xs
cells_held [] [] zip texts = tt
cells_held [] (x ∷ xs) zip texts = absurd zip
cells_held (c ∷ cs) [] zip texts = absurd zip
cells_held (c ∷ cs) (x ∷ xs) zip texts = (cell_held c x zip.0 texts.0, cells_held cs xs zip.1 texts.1)

row_held : (schema : List Column) (row : FullRow) → FitsRow schema row → HasTexts row → AllZip IsHeldBy (columns_of schema) (row_cells row)
unfolding hudi_names
row_held schema row fits texts =
    ((refl, texts.0), ((refl, texts.1.0), ((refl, texts.1.1.0), ((refl, texts.1.1.1.0), ((refl, texts.1.1.1.1.0), cells_held schema row.cells fits.cells texts.1.1.1.1.1)))))

rows_held : (schema : List Column) (rows : List FullRow) → AllByRecursion (FitsRow schema) rows → AllByRecursion HasTexts rows → HeldFrom 0 (columns_of schema) rows
rows_held schema [] fits texts = tt
rows_held schema (row ∷ rows) fits texts = (row_held schema row fits.0 texts.0, rows_held schema rows fits.1 texts.1)

few_cells : (place : ℕ) (cs : List Column) (rows : List FullRow) → length rows < 2 ^ 31 → AllByRecursion (λ (f : FilledColumn). length f.cells < 2 ^ 31) (filled_from place cs rows)
few_cells place [] rows few = tt
few_cells place (c ∷ cs) rows few = (omega (arith, cells-length place rows, few), few_cells (place + 1) cs rows few)

filled-columns : (place : ℕ) (cs : List Column) (rows : List FullRow) → map (λ (f : FilledColumn). f.column) (filled_from place cs rows) ≡ cs
filled-columns place [] rows = refl
filled-columns place (c ∷ cs) rows = ap (λ (x : List Column). c ∷ x) (filled-columns (place + 1) cs rows)

filled-cells : (place : ℕ) (cs : List Column) (rows : List FullRow) → map (λ (f : FilledColumn). f.cells) (filled_from place cs rows) ≡ table_of place cs rows
filled-cells place [] rows = refl
filled-cells place (c ∷ cs) rows = ap (λ (x : List (List Cell)). cells_at place rows ∷ x) (filled-cells (place + 1) cs rows)

table_long : (place : ℕ) (cs : List Column) (rows : List FullRow) → AllByRecursion (λ (held : List Cell). length held ≡ length rows) (table_of place cs rows)
table_long place [] rows = tt
table_long place (c ∷ cs) rows = (cells-length place rows, table_long (place + 1) cs rows)

zip-length : {A B : Type 0} (R : A → B → Type 0) (xs : List A) (ys : List B) → AllZip R xs ys → length ys ≡ length xs
zip-length R [] [] zip = refl
zip-length R [] (y ∷ ys) zip = absurd zip
zip-length R (x ∷ xs) [] zip = absurd zip
zip-length R (x ∷ xs) (y ∷ ys) zip = ap suc (zip-length R xs ys zip.1)

full_rows : (schema : List Column) (rows : List FullRow) → AllByRecursion (FitsRow schema) rows → AllByRecursion (IsFullRow schema) rows
full_rows schema [] fits = tt
full_rows schema (row ∷ rows) fits = (record { key = fits.0.key; as_many = zip-length IsCellOf schema row.cells fits.0.cells }, full_rows schema rows fits.1)

-- ---- the file

group_again : (file back : List ℕ) (schema : List Column) (rows : List FullRow) → file ≡ magic ++ (chunks (filled_columns schema rows) ++ back) → AllByRecursion (FitsRow schema) rows → AllByRecursion HasTexts rows
    → length rows < 2 ^ 31 → length file < 2 ^ 31 → IsGroup file (columns_of schema) (group_of (filled_columns schema rows) (length rows)) (table_of 0 (columns_of schema) rows) (length rows)
group_again file back schema rows parts fits texts few short =
    let all = filled_columns schema rows in
    let held = filled_held 0 (columns_of schema) rows (rows_held schema rows fits texts) in
    let found = chunks_again file magic back all parts held (few_cells 0 (columns_of schema) rows few) short in
    record {
      chunks = said_structs 4 all;
      listed = ap (λ (vs : List Value). values.List 12 vs ∷ []) (said_structs-map 4 all);
      byte_size = pos (length (chunks all));
      size_said = refl;
      counted = refl;
      each =
          subst (λ (n : ℕ). AreChunks file (columns_of schema) (said_structs n all) (table_of 0 (columns_of schema) rows)) magic-length
          (subst (λ (cs : List Column). AreChunks file cs (said_structs (length magic) all) (table_of 0 (columns_of schema) rows)) (filled-columns 0 (columns_of schema) rows)
          (subst (λ (t : List (List Cell)). AreChunks file (map (λ (f : FilledColumn). f.column) all) (said_structs (length magic) all) t) (filled-cells 0 (columns_of schema) rows) found));
      as_long = table_long 0 (columns_of schema) rows;
    }

footer_again : (file back : List ℕ) (schema : List Column) (rows : List FullRow) → file ≡ magic ++ (chunks (filled_columns schema rows) ++ back) → AllByRecursion (FitsRow schema) rows → AllByRecursion HasTexts rows
    → length rows < 2 ^ 31 → length file < 2 ^ 31 → IsFooter file (file_data (elements (columns_of schema)) (group_of (filled_columns schema rows) (length rows)) (length rows)) schema rows
footer_again file back schema rows parts fits texts few short =
    let columns = columns_of schema in
    record {
      version = pos 1;
      version_said = refl;
      root = root_element (length columns);
      elements = map element columns;
      is_root = record { name = 116 ∷ 97 ∷ 98 ∷ 108 ∷ 101 ∷ []; named = refl; counted = refl };
      are_elements = elements_again columns;
      described = ap (λ (vs : List Value). values.List 12 (values.Struct (root_element (length columns)) ∷ vs) ∷ []) (elements-map columns);
      counted = refl;
      groups = group_of (filled_columns schema rows) (length rows) ∷ [];
      parts = rows ∷ [];
      listed = refl;
      each = (group_again file back schema rows parts fits texts few short, tt);
      all = sym (append-nil rows);
    }

pub file_again : (schema : List Column) (rows : List FullRow) → IsSchema schema → AllByRecursion (FitsRow schema) rows → AllByRecursion HasTexts rows → length rows ≤ 16_384 → length (encoding schema rows) ≤ 4_194_304
    → Decodes (encoding schema rows) schema rows
unfolding encoding
file_again schema rows is fits texts few short =
    let all = filled_columns schema rows in
    let foot = footer schema rows in
    let tail = number w32 (length foot) in
    let back = foot ++ tail ++ magic in
    let len = encoding-length schema rows in
    let parts : encoding schema rows ≡ magic ++ (chunks all ++ back) =
    append_assoc (magic ++ chunks all ++ foot) tail magic ∙ append_assoc (magic ++ chunks all) foot (tail ++ magic) ∙ append_assoc magic (chunks all) (foot ++ (tail ++ magic))
    ∙ ap (λ (x : List ℕ). magic ++ (chunks all ++ x)) (sym (append_assoc foot tail magic)) in
    let many = chunk_structs-length 4 all ∙ filled_columns-length schema rows ∙ columns_of-length schema in
    record {
      few_bytes = short;
      few_rows = few;
      is_schema = is;
      each = full_rows schema rows fits;
      front = chunks all;
      footer = foot;
      small = omega (arith, len, short);
      parts = refl;
      fields = file_data (elements (columns_of schema)) (group_of all (length rows)) (length rows);
      said =
          read_again (file_data (elements (columns_of schema)) (group_of all (length rows)) (length rows))
          (can_footer schema rows (chunk_structs 4 all) (length (chunks all)) (length rows) is refl (omega (arith, many, is.columns.few)) (omega (arith, few)) (omega (arith, len, short)) (omega (arith, len, short)) (omega (arith, few)));
      is_footer = footer_again (encoding schema rows) back schema rows parts fits texts (omega (arith, few)) (omega (arith, short));
    }
