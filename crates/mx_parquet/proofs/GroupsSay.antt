-- What a layout says of row groups is what a footer with such groups says.
use Rattle.std.proofs.Common.{◌≡◌, ℕ, ◌+◌, ◌≤◌, ℤ, pos, Bool, true, false, ◌&&◌, cond, eqb, leb, List, [], ◌∷◌, length, map, flat_map, Ok, refl, sym, ap, subst, ◌∙◌, arith, length-append}
use Rattle.std.specs.List.{AllByRecursion}
use Rattle.std.specs.Str.{IsUtf8}
use Rattle.std.proofs.lemmas.List.Sums.{sum-map, sum_by-cons}
use Rattle.std.proofs.lemmas.Bool.{eq-eqb, eqb-true, leb-true, le-leb}
use Rattle.mx_thrift.specs.declared.value.Value.{Value}
use Rattle.mx_thrift.specs.declared.value.Value.TheVariants as values
use Rattle.mx_schema.specs.declared.cell.Cell.{Cell}
use Rattle.mx_schema.specs.declared.column.Column.{Column}
use Rattle.mx_parquet.specs.declared.row.FullRow.{FullRow}
use Rattle.mx_parquet.specs.declared.layout.ChunkPlace.{ChunkPlace}
use Rattle.mx_parquet.specs.declared.layout.Group.{Group}
use Rattle.mx_parquet.specs.declared.layout.Layout.{Layout}
use Rattle.mx_parquet.specs.Columns.{columns_of}
use Rattle.mx_parquet.specs.Decoding.{IsChunk, AreChunks, ArePages, IsGroup, AreGroups, IsFooter, table_of}
use Rattle.mx_parquet.specs.Shape.{Struct}
use Rattle.mx_parquet.specs.Held.{chunk_bytes, HoldCells, HoldRows, IsLaidOut}
use Rattle.mx_parquet.specs.Reading.{◌>>=◌, bad, as_struct, int_in, long_in, list_in, count_of, each_in}
use Rattle.mx_parquet.specs.Footer.{columns_in, chunk_at, chunks_in, group_at, rows_in, has_rows, layout_in}
use Rattle.mx_parquet.proofs.OfKind.{is_struct}
use Rattle.mx_parquet.proofs.Said.{bind_ok, good, ok_is, struct_is, says_int, reads_int, says_long, reads_long, says_list, reads_list, count_is, passed}
use Rattle.mx_parquet.proofs.LayoutsSay.{Describes, columns_say, columns_read, chunk_says, chunk_reads, is_chunk, place_of, said_of}

-- ---- chunks

no_cells : (file : List ℕ) (rows : ℕ) (table : List (List Cell)) → HoldCells file rows [] [] table → AreChunks file [] [] table × AllByRecursion (λ held. length held ≡ rows) table
no_cells file rows [] holds = (tt, tt)
no_cells file rows (held ∷ table) holds = absurd holds

-- chunks, and that they hold the cells
abbrev ChunksOf : List ℕ → ℕ → List Column → List Value → List (List Cell) → Type 0
ChunksOf file rows columns vs table = (chunks : List Struct) × (vs ≡ map values.Struct chunks) × AreChunks file columns chunks table × AllByRecursion (λ held. length held ≡ rows) table

more_cells : (file : List ℕ) (rows : ℕ) (column : Column) (columns : List Column) (fields : Struct) (v : Value) (vs : List Value) (place : ChunkPlace) (places : List ChunkPlace) (table : List (List Cell))
    → v ≡ values.Struct fields → ((held : List Cell) → ArePages column (chunk_bytes file place) held → length held ≡ rows → IsChunk file column fields held)
    → ((others : List (List Cell)) → HoldCells file rows columns places others → ChunksOf file rows columns vs others)
    → HoldCells file rows (column ∷ columns) (place ∷ places) table → ChunksOf file rows (column ∷ columns) (v ∷ vs) table
more_cells file rows column columns fields v vs place places [] is one rest holds = absurd holds
more_cells file rows column columns fields v vs place places (held ∷ table) is one rest holds =
    let others = rest table holds.2 in (
      fields ∷ others.0,
      ap (λ (u : Value). u ∷ vs) is ∙ ap (λ (us : List Value). values.Struct fields ∷ us) others.1,
      (one held holds.0 holds.1, others.2),
      (holds.1, others.3),
    )

chunks_say : (file : List ℕ) (rows : ℕ) (columns : List Column) (vs : List Value) (places : List ChunkPlace) (table : List (List Cell)) → chunks_in (length file) rows columns vs ≡ Ok places → HoldCells file rows columns places table → ChunksOf file rows columns vs table
unfolding chunks_in
chunks_say file rows [] [] places table e holds =
    let h = no_cells file rows table (subst (λ (ps : List ChunkPlace). HoldCells file rows [] ps table) (sym (ok_is [] places e)) holds) in
    ([], refl, h.0, h.1)
chunks_say file rows [] (v ∷ vs) places table e holds = absurd cc
chunks_say file rows (c ∷ cs) [] places table e holds = absurd cc
chunks_say file rows (c ∷ cs) (v ∷ vs) places table e holds =
    let place = bind_ok (chunk_at (length file) rows c v) (λ place. chunks_in (length file) rows cs vs >>= λ others. good (place ∷ others)) places e in
    let others = bind_ok (chunks_in (length file) rows cs vs) (λ others. good (place.0 ∷ others)) places place.2 in
    let said = chunk_says (length file) rows c v place.0 place.1 in
    let held = subst (λ (ps : List ChunkPlace). HoldCells file rows (c ∷ cs) ps table) (sym (ok_is (place.0 ∷ others.0) places others.2)) holds in
    more_cells file rows c cs said.0 v vs place.0 others.0 table said.1 (λ held pages len. is_chunk file rows c said.0 place.0 held said.2 pages len) (λ rest h. chunks_say file rows cs vs others.0 rest others.1 h) held

-- places that are read, where the cells stand
abbrev PlacesOf : List ℕ → ℕ → List Column → List Struct → List (List Cell) → Type 0
PlacesOf file rows columns chunks table = (places : List ChunkPlace) × (chunks_in (length file) rows columns (map values.Struct chunks) ≡ Ok places) × HoldCells file rows columns places table

chunks_read : (file : List ℕ) (rows : ℕ) (columns : List Column) (chunks : List Struct) (table : List (List Cell)) → AreChunks file columns chunks table → AllByRecursion (λ held. length held ≡ rows) table → PlacesOf file rows columns chunks table
unfolding chunks_in
chunks_read file rows [] [] [] are len = ([], refl, tt)
chunks_read file rows [] [] (held ∷ table) are len = absurd are
chunks_read file rows [] (s ∷ ss) table are len = absurd are
chunks_read file rows (c ∷ cs) [] table are len = absurd are
chunks_read file rows (c ∷ cs) (s ∷ ss) [] are len = absurd are
chunks_read file rows (c ∷ cs) (s ∷ ss) (held ∷ table) are len =
    let others = chunks_read file rows cs ss table are.1 len.1 in
    let place = place_of file c s held are.0 in
    (place ∷ others.0, rw (chunk_reads (length file) rows c s place (said_of file rows c s held are.0 len.0), others.1) refl, (are.0.pages, len.0, others.2))

-- ---- groups

group_says : (file : List ℕ) (columns : List Column) (value : Value) (group : Group) (table : List (List Cell)) → group_at (length file) columns value ≡ Ok group → HoldCells file group.row_count columns group.chunks table
    → (fields : Struct) × (value ≡ values.Struct fields) × IsGroup file columns fields table group.row_count
unfolding group_at
group_says file columns value group table e holds =
    let made : ℕ → List ChunkPlace → Group = λ count places. record { row_count = count; chunks = places } in
    let fields = bind_ok (as_struct value) (λ fields. list_in 12 1 fields >>= λ chunks. long_in 2 fields >>= λ size. long_in 3 fields >>= λ count. count_of count >>= λ rows. chunks_in (length file) rows columns chunks >>= λ places. good (made rows places)) group e in
    let chunks = bind_ok (list_in 12 1 fields.0) (λ chunks. long_in 2 fields.0 >>= λ size. long_in 3 fields.0 >>= λ count. count_of count >>= λ rows. chunks_in (length file) rows columns chunks >>= λ places. good (made rows places)) group fields.2 in
    let size = bind_ok (long_in 2 fields.0) (λ size. long_in 3 fields.0 >>= λ count. count_of count >>= λ rows. chunks_in (length file) rows columns chunks.0 >>= λ places. good (made rows places)) group chunks.2 in
    let count = bind_ok (long_in 3 fields.0) (λ count. count_of count >>= λ rows. chunks_in (length file) rows columns chunks.0 >>= λ places. good (made rows places)) group size.2 in
    let rows = bind_ok (count_of count.0) (λ rows. chunks_in (length file) rows columns chunks.0 >>= λ places. good (made rows places)) group count.2 in
    let places = bind_ok (chunks_in (length file) rows.0 columns chunks.0) (λ places. good (made rows.0 places)) group rows.2 in
    let is : made rows.0 places.0 ≡ group = ok_is (made rows.0 places.0) group places.2 in
    let held = subst (λ (g : Group). HoldCells file g.row_count columns g.chunks table) (sym is) holds in
    let all = chunks_say file rows.0 columns chunks.0 places.0 table places.1 held in
    let found : IsGroup file columns fields.0 table rows.0 = record {
      chunks = all.0;
      listed = says_list 12 1 fields.0 (map values.Struct all.0) (chunks.1 ∙ ap (λ (vs : List Value). good vs) all.1);
      byte_size = size.0;
      size_said = says_long 2 fields.0 size.0 size.1;
      counted = says_long 3 fields.0 (pos rows.0) (count.1 ∙ ap (λ (k : ℤ). good k) (count_is count.0 rows.0 rows.1));
      each = all.2;
      as_long = all.3;
    } in
    (fields.0, struct_is value fields.0 fields.1, subst (λ (g : Group). IsGroup file columns fields.0 table g.row_count) is found)

group_reads : (file : List ℕ) (columns : List Column) (fields : Struct) (table : List (List Cell)) (rows : ℕ) → IsGroup file columns fields table rows
    → (group : Group) × (group_at (length file) columns (values.Struct fields) ≡ Ok group) × (rows ≡ group.row_count) × HoldCells file group.row_count columns group.chunks table
unfolding group_at
group_reads file columns fields table rows is =
    let places = chunks_read file rows columns is.chunks table is.each is.as_long in (
      record { row_count = rows; chunks = places.0 },
      rw (
        is_struct (values.Struct fields) fields refl,
        reads_list 12 1 fields (map values.Struct is.chunks) is.listed,
        reads_long 2 fields is.byte_size is.size_said,
        reads_long 3 fields (pos rows) is.counted,
        places.1,
      ) refl,
      refl,
      places.2,
    )

no_rows : (file : List ℕ) (columns : List Column) (parts : List (List FullRow)) → HoldRows file columns [] parts → AreGroups file columns [] parts
no_rows file columns [] holds = tt
no_rows file columns (rows ∷ parts) holds = absurd holds

abbrev GroupsOf : List ℕ → List Column → List Value → List (List FullRow) → Type 0
GroupsOf file columns vs parts = (groups : List Struct) × (vs ≡ map values.Struct groups) × AreGroups file columns groups parts

more_rows : (file : List ℕ) (columns : List Column) (v : Value) (vs : List Value) (group : Group) (groups : List Group) (parts : List (List FullRow)) → group_at (length file) columns v ≡ Ok group
    → ((others : List (List FullRow)) → HoldRows file columns groups others → GroupsOf file columns vs others) → HoldRows file columns (group ∷ groups) parts → GroupsOf file columns (v ∷ vs) parts
more_rows file columns v vs group groups [] e rest holds = absurd holds
more_rows file columns v vs group groups (rows ∷ parts) e rest holds =
    let others = rest parts holds.2 in
    let one = group_says file columns v group (table_of 0 columns rows) e holds.1 in (
      one.0 ∷ others.0,
      ap (λ (u : Value). u ∷ vs) one.1 ∙ ap (λ (us : List Value). values.Struct one.0 ∷ us) others.1,
      (subst (λ (n : ℕ). IsGroup file columns one.0 (table_of 0 columns rows) n) (sym holds.0) one.2, others.2),
    )

groups_say : (file : List ℕ) (columns : List Column) (vs : List Value) (groups : List Group) (parts : List (List FullRow)) → each_in (group_at (length file) columns) vs ≡ Ok groups → HoldRows file columns groups parts → GroupsOf file columns vs parts
unfolding each_in
groups_say file columns [] groups parts e holds = ([], refl, no_rows file columns parts (subst (λ (gs : List Group). HoldRows file columns gs parts) (sym (ok_is [] groups e)) holds))
groups_say file columns (v ∷ vs) groups parts e holds =
    let first = bind_ok (group_at (length file) columns v) (λ g. each_in (group_at (length file) columns) vs >>= λ gs. good (g ∷ gs)) groups e in
    let rest = bind_ok (each_in (group_at (length file) columns) vs) (λ gs. good (first.0 ∷ gs)) groups first.2 in
    let held = subst (λ (gs : List Group). HoldRows file columns gs parts) (sym (ok_is (first.0 ∷ rest.0) groups rest.2)) holds in
    more_rows file columns v vs first.0 rest.0 parts first.1 (λ others h. groups_say file columns vs rest.0 others rest.1 h) held

groups_read : (file : List ℕ) (columns : List Column) (fields : List Struct) (parts : List (List FullRow)) → AreGroups file columns fields parts
    → (groups : List Group) × (each_in (group_at (length file) columns) (map values.Struct fields) ≡ Ok groups) × HoldRows file columns groups parts
unfolding each_in
groups_read file columns [] [] are = ([], refl, tt)
groups_read file columns [] (rows ∷ parts) are = absurd are
groups_read file columns (s ∷ ss) [] are = absurd are
groups_read file columns (s ∷ ss) (rows ∷ parts) are =
    let one = group_reads file columns s (table_of 0 columns rows) (length rows) are.0 in
    let others = groups_read file columns ss parts are.1 in
    (one.0 ∷ others.0, rw (one.1, others.1) refl, (one.2, one.3, others.2))

-- ---- the whole

pub rows_add : (file : List ℕ) (columns : List Column) (groups : List Group) (parts : List (List FullRow)) → HoldRows file columns groups parts → rows_in groups ≡ length (flat_map (λ (part : List FullRow). part) parts)
rows_add file columns [] [] holds = refl
rows_add file columns [] (rows ∷ parts) holds = absurd holds
rows_add file columns (g ∷ gs) [] holds = absurd holds
rows_add file columns (g ∷ gs) (rows ∷ parts) holds =
    let first : rows_in (g ∷ gs) ≡ g.row_count + rows_in gs = sum-map (λ (x : Group). x.row_count) (g ∷ gs) ∙ sum_by-cons (λ (x : Group). x.row_count) g gs ∙ ap (λ (n : ℕ). g.row_count + n) (sym (sum-map (λ (x : Group). x.row_count) gs)) in
    let all : length (flat_map (λ (part : List FullRow). part) (rows ∷ parts)) ≡ length rows + length (flat_map (λ (part : List FullRow). part) parts) = length-append rows (flat_map (λ (part : List FullRow). part) parts) in
    first ∙ ap (λ (n : ℕ). n + rows_in gs) (sym holds.0) ∙ ap (λ (n : ℕ). length rows + n) (rows_add file columns gs parts holds.2) ∙ sym all

and_parts : (a b : Bool) → (a && b) ≡ true → (a ≡ true) × (b ≡ true)
and_parts true b e = (refl, e)
and_parts false b e = absurd cc

abbrev made : List Column → ℕ → List Group → Layout
made columns row_count groups = record { columns = columns; row_count = row_count; groups = groups }

pub layout_says : (file : List ℕ) (fields : Struct) (layout : Layout) (schema : List Column) (rows : List FullRow) → layout_in (length file) fields ≡ Ok layout → IsLaidOut file layout schema rows → IsFooter file fields schema rows
unfolding layout_in
layout_says file fields layout schema rows e laid =
    let len = length file in
    let version = bind_ok (int_in 1 fields) (λ version. columns_in fields >>= λ cs. long_in 3 fields >>= λ count. count_of count >>= λ n. list_in 12 4 fields >>= λ items. each_in (group_at len cs) items >>= λ gs. cond (has_rows n gs) (good (made cs n gs)) bad) layout e in
    let columns = bind_ok (columns_in fields) (λ cs. long_in 3 fields >>= λ count. count_of count >>= λ n. list_in 12 4 fields >>= λ items. each_in (group_at len cs) items >>= λ gs. cond (has_rows n gs) (good (made cs n gs)) bad) layout version.2 in
    let count = bind_ok (long_in 3 fields) (λ count. count_of count >>= λ n. list_in 12 4 fields >>= λ items. each_in (group_at len columns.0) items >>= λ gs. cond (has_rows n gs) (good (made columns.0 n gs)) bad) layout columns.2 in
    let n = bind_ok (count_of count.0) (λ n. list_in 12 4 fields >>= λ items. each_in (group_at len columns.0) items >>= λ gs. cond (has_rows n gs) (good (made columns.0 n gs)) bad) layout count.2 in
    let items = bind_ok (list_in 12 4 fields) (λ items. each_in (group_at len columns.0) items >>= λ gs. cond (has_rows n.0 gs) (good (made columns.0 n.0 gs)) bad) layout n.2 in
    let gs = bind_ok (each_in (group_at len columns.0) items.0) (λ gs. cond (has_rows n.0 gs) (good (made columns.0 n.0 gs)) bad) layout items.2 in
    let last = passed (has_rows n.0 gs.0) (made columns.0 n.0 gs.0) layout gs.2 in
    let is_columns : columns.0 ≡ columns_of schema = ap (λ (l : Layout). l.columns) last.1 ∙ laid.columns in
    let is_count : n.0 ≡ length rows = ap (λ (l : Layout). l.row_count) last.1 ∙ laid.counted in
    let is_groups : layout.groups ≡ gs.0 = sym (ap (λ (l : Layout). l.groups) last.1) in
    let described = subst (λ (cs : List Column). Describes fields cs) is_columns (columns_say fields columns.0 columns.1) in
    let read = subst (λ (cs : List Column). each_in (group_at len cs) items.0 ≡ Ok gs.0) is_columns gs.1 in
    let groups = groups_say file (columns_of schema) items.0 gs.0 laid.parts read (subst (λ (g : List Group). HoldRows file (columns_of schema) g laid.parts) is_groups laid.each) in
    record {
      version = version.0;
      version_said = says_int 1 fields version.0 version.1;
      root = described.root;
      elements = described.elements;
      is_root = described.is_root;
      are_elements = described.are_elements;
      described = described.described;
      counted = says_long 3 fields (pos (length rows)) (count.1 ∙ ap (λ (k : ℤ). good k) (count_is count.0 n.0 n.1 ∙ ap pos is_count));
      groups = groups.0;
      parts = laid.parts;
      listed = says_list 12 4 fields (map values.Struct groups.0) (items.1 ∙ ap (λ (vs : List Value). good vs) groups.1);
      each = groups.2;
      all = laid.all;
    }

pub layout_reads : (file : List ℕ) (fields : Struct) (schema : List Column) (rows : List FullRow) → AllByRecursion (λ column. IsUtf8 column.name) (columns_of schema) → length rows ≤ 16_384 → IsFooter file fields schema rows
    → (layout : Layout) × (layout_in (length file) fields ≡ Ok layout) × IsLaidOut file layout schema rows
unfolding layout_in
layout_reads file fields schema rows utf8 few is =
    let columns = columns_of schema in
    let described : Describes fields columns = record { root = is.root; elements = is.elements; is_root = is.is_root; are_elements = is.are_elements; described = is.described } in
    let groups = groups_read file columns is.groups is.parts is.each in
    let sum_is : rows_in groups.0 ≡ length rows = rows_add file columns groups.0 is.parts groups.2 ∙ ap length (sym is.all) in
    let enough : has_rows (length rows) groups.0 ≡ true = rw (le-leb (length rows) 16_384 few, eq-eqb (rows_in groups.0) (length rows) sum_is) refl in (
      made columns (length rows) groups.0,
      rw (
        reads_int 1 fields is.version is.version_said,
        columns_read fields columns utf8 described,
        reads_long 3 fields (pos (length rows)) is.counted,
        reads_list 12 4 fields (map values.Struct is.groups) is.listed,
        groups.1,
        enough,
      ) refl,
      record { columns = refl; counted = refl; parts = is.parts; each = groups.2; all = is.all },
    )

layout_rows : (len : ℕ) (fields : Struct) (layout : Layout) → layout_in len fields ≡ Ok layout → has_rows layout.row_count layout.groups ≡ true
unfolding layout_in
layout_rows len fields layout e =
    let version = bind_ok (int_in 1 fields) (λ version. columns_in fields >>= λ cs. long_in 3 fields >>= λ count. count_of count >>= λ n. list_in 12 4 fields >>= λ items. each_in (group_at len cs) items >>= λ gs. cond (has_rows n gs) (good (made cs n gs)) bad) layout e in
    let columns = bind_ok (columns_in fields) (λ cs. long_in 3 fields >>= λ count. count_of count >>= λ n. list_in 12 4 fields >>= λ items. each_in (group_at len cs) items >>= λ gs. cond (has_rows n gs) (good (made cs n gs)) bad) layout version.2 in
    let count = bind_ok (long_in 3 fields) (λ count. count_of count >>= λ n. list_in 12 4 fields >>= λ items. each_in (group_at len columns.0) items >>= λ gs. cond (has_rows n gs) (good (made columns.0 n gs)) bad) layout columns.2 in
    let n = bind_ok (count_of count.0) (λ n. list_in 12 4 fields >>= λ items. each_in (group_at len columns.0) items >>= λ gs. cond (has_rows n gs) (good (made columns.0 n gs)) bad) layout count.2 in
    let items = bind_ok (list_in 12 4 fields) (λ items. each_in (group_at len columns.0) items >>= λ gs. cond (has_rows n.0 gs) (good (made columns.0 n.0 gs)) bad) layout n.2 in
    let gs = bind_ok (each_in (group_at len columns.0) items.0) (λ gs. cond (has_rows n.0 gs) (good (made columns.0 n.0 gs)) bad) layout items.2 in
    let last = passed (has_rows n.0 gs.0) (made columns.0 n.0 gs.0) layout gs.2 in
    subst (λ (l : Layout). has_rows l.row_count l.groups ≡ true) last.1 last.0

pub layout_few : (len : ℕ) (fields : Struct) (layout : Layout) (count : ℕ) → layout_in len fields ≡ Ok layout → layout.row_count ≡ count → count ≤ 16_384
layout_few len fields layout rows e is =
    let few = and_parts (leb layout.row_count 16_384) (eqb (rows_in layout.groups) layout.row_count) (layout_rows len fields layout e) in
    omega (arith, leb-true layout.row_count 16_384 few.0, is)

pub layout_sum : (len : ℕ) (fields : Struct) (layout : Layout) → layout_in len fields ≡ Ok layout → rows_in layout.groups ≡ layout.row_count
layout_sum len fields layout e =
    let sum = and_parts (leb layout.row_count 16_384) (eqb (rows_in layout.groups) layout.row_count) (layout_rows len fields layout e) in
    eqb-true (rows_in layout.groups) layout.row_count sum.1
