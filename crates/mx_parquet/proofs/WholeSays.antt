-- What is read of a whole file are the rows that it stands for.
use Rattle.std.proofs.Common.{◌≡◌, ◌≤◌, ℕ, ℤ, map, drop, zero, suc, ◌+◌, ◌-◌, ◌^◌, ◌<◌, List, [], ◌∷◌, ◌++◌, length, flat_map, Result, Ok, Err, refl, sym, ap, subst, ◌∙◌, arith}
use Rattle.std.specs.Int.{w32, w64, from_le_bytes, cast_signed, cast_unsigned}
use Rattle.std.specs.Int.RustNames.{FitsSigned}
use Rattle.std.specs.List.{AllByRecursion}
use Rattle.std.proofs.Math.Facts.{to_z-of_z}
use Rattle.std.proofs.lemmas.Int.{ints}
use Rattle.std.proofs.lemmas.Nat.{from_le_bytes-to_le_bytes_4, from_le_bytes-to_le_bytes_8}
use Rattle.mx_avro.proofs.Groups.{IsBytes}
use Rattle.mx_schema.specs.declared.cell.Cell.{Cell}
use Rattle.mx_schema.specs.declared.cell.Cell.TheVariants as cells
use Rattle.mx_schema.specs.declared.column.Column.{Column}
use Rattle.mx_schema.specs.Columns.{IsSchema}
use Rattle.mx_schema.specs.Rows.{IsKeyText}
use Rattle.mx_parquet.specs.declared.row.FullRow.{FullRow}
use Rattle.mx_parquet.specs.declared.layout.ChunkPlace.{ChunkPlace}
use Rattle.mx_parquet.specs.declared.layout.Group.{Group}
use Rattle.mx_parquet.specs.declared.layout.Layout.{Layout}
use Rattle.mx_parquet.specs.declared.error.ParquetError.{ParquetError}
use Rattle.mx_parquet.specs.declared.error.ParquetError.TheVariants as errors
use Rattle.mx_parquet.specs.Columns.{hudi_names, columns_of, cell_at, cells_at}
use Rattle.mx_parquet.specs.Decoding.{IsFullRow, Decodes, table_of}
use Rattle.mx_parquet.specs.Held.{HoldCells, HoldRows, IsLaidOut}
use Rattle.mx_parquet.specs.Opening.{file_layout, AnswersAt}
use Rattle.mx_parquet.specs.Filling.{MayStand, HoldColumns, AreGroupsOf, AreRowsOf, Refuses, fitted_row}
use Rattle.mx_parquet.specs.Chunks.{fitted}
use Rattle.mx_parquet.specs.Pages.{number}
use Rattle.mx_parquet.specs.Refusals.{IsRefusal, IsInWidth, HaveNumbers}
use Rattle.mx_parquet.proofs.GroupsSay.{rows_add}
use Rattle.mx_parquet.proofs.OpeningSays.{file_says, file_reads, file_opened}
use Rattle.mx_parquet.proofs.ColumnNames.{names_are_texts}

-- ---- cells and rows

-- the cells of rows with keys may stand where they do
may_stand : (place : ℕ) (row : FullRow) → IsKeyText row.record_key → MayStand place (cell_at place row)
may_stand zero row key = λ e. absurd (omega (arith, e))
may_stand (suc zero) row key = λ e. absurd (omega (arith, e))
may_stand (suc (suc zero)) row key = λ e. key
may_stand (suc (suc (suc zero))) row key = λ e. absurd (omega (arith, e))
may_stand (suc (suc (suc (suc zero)))) row key = λ e. absurd (omega (arith, e))
may_stand (suc (suc (suc (suc (suc n))))) row key = late (cell_at (suc (suc (suc (suc (suc n))))) row)
  where
    late : (cell : Cell) → MayStand (suc (suc (suc (suc (suc n))))) cell
    late cells.Null = omega arith
    late (cells.Flag flag) = omega arith
    late (cells.Small m) = omega arith
    late (cells.Whole m) = omega arith
    late (cells.Text text) = λ e. absurd (omega (arith, e))

all_may : (place : ℕ) (rows : List FullRow) → AllByRecursion (λ row. IsKeyText row.record_key) rows → AllByRecursion (MayStand place) (cells_at place rows)
all_may place [] keys = tt
all_may place (row ∷ rows) keys = (may_stand place row keys.0, all_may place rows keys.1)

keys_of : (rows : List FullRow) → AllByRecursion (MayStand 2) (cells_at 2 rows) → AllByRecursion (λ row. IsKeyText row.record_key) rows
keys_of [] may = tt
keys_of (row ∷ rows) may = (may.0 refl, keys_of rows may.1)

-- ---- columns

hold_columns : (file : List ℕ) (count place : ℕ) (columns : List Column) (chunks : List ChunkPlace) (rows : List FullRow) → AllByRecursion (λ row. IsKeyText row.record_key) rows
    → HoldCells file count columns chunks (table_of place columns rows) → HoldColumns file count place columns chunks rows
hold_columns file count place [] [] rows keys held = tt
hold_columns file count place [] (chunk ∷ chunks) rows keys held = held
hold_columns file count place (column ∷ columns) [] rows keys held = held
hold_columns file count place (column ∷ columns) (chunk ∷ chunks) rows keys held = (((held.0, held.1), all_may place rows keys), hold_columns file count (place + 1) columns chunks rows keys held.2)

hold_cells : (file : List ℕ) (count place : ℕ) (columns : List Column) (chunks : List ChunkPlace) (rows : List FullRow) → HoldColumns file count place columns chunks rows
    → HoldCells file count columns chunks (table_of place columns rows)
hold_cells file count place [] [] rows held = tt
hold_cells file count place [] (chunk ∷ chunks) rows held = held
hold_cells file count place (column ∷ columns) [] rows held = held
hold_cells file count place (column ∷ columns) (chunk ∷ chunks) rows held = (held.0.0.0, held.0.0.1, hold_cells file count (place + 1) columns chunks rows held.1)

hold_keys : (file : List ℕ) (count : ℕ) (schema : List Column) (chunks : List ChunkPlace) (rows : List FullRow) → HoldColumns file count 0 (columns_of schema) chunks rows → AllByRecursion (λ row. IsKeyText row.record_key) rows
unfolding hudi_names
hold_keys file count schema [] rows held = absurd held
hold_keys file count schema (a ∷ []) rows held = absurd held.1
hold_keys file count schema (a ∷ b ∷ []) rows held = absurd held.1.1
hold_keys file count schema (a ∷ b ∷ c ∷ chunks) rows held = keys_of rows held.1.1.0.1

columns-length : (schema : List Column) → length (columns_of schema) ≡ 5 + length schema
unfolding hudi_names
columns-length schema = omega arith

-- ---- row groups

keys_in : (schema : List Column) (rows : List FullRow) → AllByRecursion (IsFullRow schema) rows → AllByRecursion (λ row. IsKeyText row.record_key) rows
keys_in schema [] each = tt
keys_in schema (row ∷ rows) each = (each.0.key, keys_in schema rows each.1)

as_long : (schema : List Column) (rows : List FullRow) → AllByRecursion (IsFullRow schema) rows → AllByRecursion (λ row. length row.cells ≡ length (columns_of schema) - 5) rows
as_long schema [] each = tt
as_long schema (row ∷ rows) each = (omega (arith, each.0.as_many, columns-length schema), as_long schema rows each.1)

full : (schema : List Column) (rows : List FullRow) → AllByRecursion (λ row. IsKeyText row.record_key) rows → AllByRecursion (λ row. length row.cells ≡ length (columns_of schema) - 5) rows → AllByRecursion (IsFullRow schema) rows
full schema [] keys long = tt
full schema (row ∷ rows) keys long = (record { key = keys.0; as_many = omega (arith, long.0, columns-length schema) }, full schema rows keys.1 long.1)

all_front : {A : Type 0} (P : A → Type 0) (xs ys : List A) → AllByRecursion P (xs ++ ys) → AllByRecursion P xs × AllByRecursion P ys
all_front P [] ys all = (tt, all)
all_front P (x ∷ xs) ys all = let p = all_front P xs ys all.1 in ((all.0, p.0), p.1)

all_both : {A : Type 0} (P : A → Type 0) (xs ys : List A) → AllByRecursion P xs → AllByRecursion P ys → AllByRecursion P (xs ++ ys)
all_both P [] ys front back = back
all_both P (x ∷ xs) ys front back = (front.0, all_both P xs ys front.1 back)

groups_of : (file : List ℕ) (schema : List Column) (groups : List Group) (parts : List (List FullRow)) → AllByRecursion (IsFullRow schema) (flat_map (λ (part : List FullRow). part) parts)
    → HoldRows file (columns_of schema) groups parts → AreGroupsOf file (columns_of schema) groups parts
groups_of file schema [] [] each held = tt
groups_of file schema [] (rows ∷ parts) each held = held
groups_of file schema (group ∷ groups) [] each held = held
groups_of file schema (group ∷ groups) (rows ∷ parts) each held =
    let p = all_front (IsFullRow schema) rows (flat_map (λ (part : List FullRow). part) parts) each in (
      record {
        counted = held.0;
        as_long = as_long schema rows p.0;
        held = hold_columns file group.row_count 0 (columns_of schema) group.chunks rows (keys_in schema rows p.0) held.1;
      },
      groups_of file schema groups parts p.1 held.2,
    )

rows_held : (file : List ℕ) (schema : List Column) (groups : List Group) (parts : List (List FullRow)) → AreGroupsOf file (columns_of schema) groups parts
    → HoldRows file (columns_of schema) groups parts × AllByRecursion (IsFullRow schema) (flat_map (λ (part : List FullRow). part) parts)
rows_held file schema [] [] are = (tt, tt)
rows_held file schema [] (rows ∷ parts) are = absurd are
rows_held file schema (group ∷ groups) [] are = absurd are
rows_held file schema (group ∷ groups) (rows ∷ parts) are =
    let first = are.0 in
    let others = rows_held file schema groups parts are.1 in
    let keys = hold_keys file group.row_count schema group.chunks rows first.held in (
      (first.counted, hold_cells file group.row_count 0 (columns_of schema) group.chunks rows first.held, others.0),
      all_both (IsFullRow schema) rows (flat_map (λ (part : List FullRow). part) parts) (full schema rows keys first.as_long) others.1,
    )

-- ---- files

pub file_read : (file : List ℕ) (layout : Layout) (columns : List Column) (groups : List Group) (schema : List Column) (rows : List FullRow) → IsBytes file → file_layout file ≡ Ok layout → columns ≡ layout.columns → groups ≡ layout.groups
    → IsSchema schema → columns ≡ columns_of schema → AreRowsOf file columns groups rows → Decodes file schema rows
file_read file layout columns groups schema rows fits opened columns_are groups_are is_schema begins are =
    let same : layout.columns ≡ columns_of schema = sym columns_are ∙ begins in
    let here = subst (λ (gs : List Group). AreRowsOf file (columns_of schema) gs rows) groups_are (subst (λ (cs : List Column). AreRowsOf file cs groups rows) begins are) in
    let held = rows_held file schema layout.groups here.parts here.each in
    let sum : layout.row_count ≡ length rows = sym (file_opened file layout fits opened).1 ∙ rows_add file (columns_of schema) layout.groups here.parts held.0 ∙ ap length (sym here.all) in
    file_says file layout schema rows fits opened (
    record { columns = same; counted = sum; parts = here.parts; each = held.0; all = here.all }
    )
    is_schema (subst (AllByRecursion (IsFullRow schema)) (sym here.all) held.1)

abbrev answer : Layout → Result Layout ParquetError
answer layout = Ok layout

ok_is : (x y : Layout) → answer x ≡ answer y → x ≡ y
ok_is x y e = cc

-- what a file stands for is what its layout says
record Laid (file : List ℕ) (layout : Layout) (schema : List Column) (rows : List FullRow) : Type 0 where
  pub columns : layout.columns ≡ columns_of schema
  pub rows_are : AreRowsOf file layout.columns layout.groups rows

laid : (file : List ℕ) (layout : Layout) (schema : List Column) (rows : List FullRow) → file_layout file ≡ Ok layout → Decodes file schema rows → Laid file layout schema rows
laid file layout schema rows opened is =
    let r = file_reads file schema rows (names_are_texts schema is.is_schema) is in
    let same : r.0 ≡ layout = ok_is r.0 layout (sym r.1 ∙ opened) in
    let l = subst (λ (l : Layout). IsLaidOut file l schema rows) same r.2 in
    let each = subst (AllByRecursion (IsFullRow schema)) l.all is.each in
    let are : AreRowsOf file (columns_of schema) layout.groups rows = record { parts = l.parts; each = groups_of file schema layout.groups l.parts each l.each; all = l.all } in
    record { columns = l.columns; rows_are = subst (λ (columns : List Column). AreRowsOf file columns layout.groups rows) (sym l.columns) are }

-- ---- errors

not_opened : (file : List ℕ) (e : ParquetError) → file_layout file ≡ Err e → (schema : List Column) (rows : List FullRow) → Decodes file schema rows → ⊥
not_opened file e failed schema rows is = not_both (file_reads file schema rows (names_are_texts schema is.is_schema) is).1 failed
  where
    not_both : {r : Result Layout ParquetError} {x : Layout} {e : ParquetError} → r ≡ Ok x → r ≡ Err e → ⊥
    not_both e f = absurd cc

pub no_layout : (file : List ℕ) (e : ParquetError) → AnswersAt (Err e) (file_layout file) → IsRefusal file e
no_layout file errors.NoMemory is = tt
no_layout file (errors.BadParquet at) is = not_opened file (errors.BadParquet at) is
no_layout file (errors.Unsupported what) is = not_opened file (errors.Unsupported what) is

pub no_schema : (X : Type 0) (file : List ℕ) (layout : Layout) (columns : List Column) (e : ParquetError) → file_layout file ≡ Ok layout → columns ≡ layout.columns
    → Refuses {X = X} (λ (schema : List Column). IsSchema schema × (columns ≡ columns_of schema)) (Err e) → IsRefusal file e
no_schema X file layout columns errors.NoMemory opened same none = tt
no_schema X file layout columns (errors.BadParquet at) opened same none = λ schema rows is. none schema (is.is_schema, same ∙ (laid file layout schema rows opened is).columns)
no_schema X file layout columns (errors.Unsupported what) opened same none = λ schema rows is. none schema (is.is_schema, same ∙ (laid file layout schema rows opened is).columns)

these_rows : (file : List ℕ) (layout : Layout) (columns : List Column) (groups : List Group) (schema : List Column) (rows : List FullRow) → file_layout file ≡ Ok layout → columns ≡ layout.columns → groups ≡ layout.groups
    → Decodes file schema rows → AreRowsOf file columns groups rows
these_rows file layout columns groups schema rows opened same are is =
    subst (λ (gs : List Group). AreRowsOf file columns gs rows) (sym are) (
    subst (λ (cs : List Column). AreRowsOf file cs layout.groups rows) (sym same) (laid file layout schema rows opened is).rows_are
    )

pub no_rows : (X : Type 0) (file : List ℕ) (layout : Layout) (columns : List Column) (groups : List Group) (e : ParquetError) → file_layout file ≡ Ok layout → columns ≡ layout.columns → groups ≡ layout.groups
    → Refuses {X = X} (AreRowsOf file columns groups) (Err e) → IsRefusal file e
no_rows X file layout columns groups errors.NoMemory opened same are none = tt
no_rows X file layout columns groups (errors.BadParquet at) opened same are none = λ schema rows is. none rows (these_rows file layout columns groups schema rows opened same are is)
no_rows X file layout columns groups (errors.Unsupported what) opened same are none = λ schema rows is. none rows (these_rows file layout columns groups schema rows opened same are is)

pub file_short : (file : List ℕ) (layout : Layout) → IsBytes file → file_layout file ≡ Ok layout → length file < 2 ^ 32
file_short file layout fits opened = omega (arith, (file_opened file layout fits opened).0)

-- ---- the one table of a file

number_small : (n : ℤ) → FitsSigned w32 n → cast_unsigned w32 n < 2 ^ 32
number_small n fits = omega (arith, ints, fits)

long_small : (n : ℤ) → FitsSigned w64 n → cast_unsigned w64 n < 2 ^ 64
long_small n fits = omega (arith, ints, fits)

small_again : (n : ℤ) → FitsSigned w32 n → cast_signed w32 (from_le_bytes w32 (number w32 (cast_unsigned w32 n))) ≡ n
unfolding number
small_again n fits = ap (cast_signed w32) (from_le_bytes-to_le_bytes_4 (cast_unsigned w32 n) (number_small n fits)) ∙ to_z-of_z fits

whole_again : (n : ℤ) → FitsSigned w64 n → cast_signed w64 (from_le_bytes w64 (number w64 (cast_unsigned w64 n))) ≡ n
unfolding number
whole_again n fits = ap (cast_signed w64) (from_le_bytes-to_le_bytes_8 (cast_unsigned w64 n) (long_small n fits)) ∙ to_z-of_z fits

fitted_same : (cell : Cell) → IsInWidth cell → fitted cell ≡ cell
fitted_same cells.Null is = refl
fitted_same (cells.Flag flag) is = refl
fitted_same (cells.Small n) is = ap cells.Small (small_again n is)
fitted_same (cells.Whole n) is = ap cells.Whole (whole_again n is)
fitted_same (cells.Text text) is = refl

cells_same : (held : List Cell) → AllByRecursion IsInWidth held → map fitted held ≡ held
cells_same [] all = refl
cells_same (cell ∷ held) all = ap (λ (c : Cell). c ∷ map fitted held) (fitted_same cell all.0) ∙ ap (λ (cs : List Cell). cell ∷ cs) (cells_same held all.1)

with_those : FullRow → List Cell → FullRow
with_those row held = record {
  commit_time = row.commit_time;
  commit_seqno = row.commit_seqno;
  record_key = row.record_key;
  partition_path = row.partition_path;
  file_name = row.file_name;
  cells = held;
}

row_same : (row : FullRow) → AllByRecursion IsInWidth row.cells → fitted_row row ≡ row
unfolding with_those
row_same row all = ap (with_those row) (cells_same row.cells all)

rows_fitted : (rows : List FullRow) → HaveNumbers rows → map fitted_row rows ≡ rows
rows_fitted [] all = refl
rows_fitted (row ∷ rows) all = ap (λ (r : FullRow). r ∷ map fitted_row rows) (row_same row all.0) ∙ ap (λ (rs : List FullRow). row ∷ rs) (rows_fitted rows all.1)

schema_is : (a b : List Column) → columns_of a ≡ columns_of b → a ≡ b
unfolding hudi_names
schema_is a b e = ap (drop 5) e

pub only_table : (file : List ℕ) (layout : Layout) (columns : List Column) (groups : List Group) (found : List Column) (read : List FullRow) → file_layout file ≡ Ok layout → columns ≡ layout.columns → groups ≡ layout.groups
    → columns ≡ columns_of found → ((others : List FullRow) → AreRowsOf file columns groups others → map fitted_row others ≡ read)
    → (schema : List Column) (rows : List FullRow) → Decodes file schema rows → HaveNumbers rows → (found ≡ schema) × (read ≡ rows)
only_table file layout columns groups found read opened same are begins only schema rows is numbers = (
  schema_is found schema (sym begins ∙ same ∙ (laid file layout schema rows opened is).columns),
  sym (only rows (these_rows file layout columns groups schema rows opened same are is)) ∙ rows_fitted rows numbers,
)

pub five_columns : (columns schema : List Column) → columns ≡ columns_of schema → 5 ≤ length columns
five_columns columns schema is = omega (arith, ap length is, columns-length schema)
