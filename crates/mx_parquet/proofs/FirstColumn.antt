-- Rows that are made with the first column, and filled with the others, are those of the row group.
use Rattle.std.proofs.Common.{◌≡◌, ℕ, zero, suc, ◌+◌, ◌-◌, List, [], ◌∷◌, length, map, replicate, Err, refl, sym, ap, subst, ◌∙◌, arith}
use Rattle.std.specs.List.{AllByRecursion}
use Rattle.std.proofs.lemmas.List.{length-replicate}
use Rattle.mx_schema.specs.declared.cell.Cell.{Cell}
use Rattle.mx_schema.specs.declared.column.Column.{Column}
use Rattle.mx_parquet.specs.declared.row.FullRow.{FullRow}
use Rattle.mx_parquet.specs.declared.layout.ChunkPlace.{ChunkPlace}
use Rattle.mx_parquet.specs.declared.layout.Group.{Group}
use Rattle.mx_parquet.specs.declared.error.ParquetError.{ParquetError}
use Rattle.mx_parquet.specs.Columns.{row_cells}
use Rattle.mx_parquet.specs.Held.{chunk_bytes}
use Rattle.mx_parquet.specs.Chunks.{fitted}
use Rattle.mx_parquet.specs.Filling.{with_cells, blank, FillColumn, HoldColumns, AreFilled, IsGroupOf, Refuses}
use Rattle.mx_parquet.specs.Faults.{TellsFault, IsColumnsFault}
use Rattle.mx_parquet.proofs.FaultsSay.{tells_more, others_fault}
use Rattle.mx_parquet.proofs.CellsSay.{IsFilled}
use Rattle.mx_parquet.proofs.RowsSay.{mid_filled, columns_filled, refuses_more, other_columns_refuse}

abbrev pub blanks : ℕ → List FullRow
blanks count = replicate count blank

blanks_short : (count : ℕ) → AllByRecursion (λ (row : FullRow). length row.cells ≡ 0 - 5) (blanks count)
blanks_short zero = tt
blanks_short (suc count) = (refl, blanks_short count)

-- rows with the first column alone
abbrev pub HaveFirst : List Cell → List FullRow → Type 0
HaveFirst held rows = map row_cells rows ≡ with_cells 0 held (blanks (length held))

first_made : (column : Column) (count : ℕ) (bytes : List ℕ) (held : List Cell) (rows : List FullRow) → FillColumn column 0 count bytes held → HaveFirst held rows → map row_cells rows ≡ with_cells 0 held (blanks count)
first_made column count bytes held rows fills made = made ∙ ap (λ (n : ℕ). with_cells 0 held (blanks n)) fills.0.1

pub first_filled : (column : Column) (count : ℕ) (bytes : List ℕ) (held : List Cell) (rows : List FullRow) → FillColumn column 0 count bytes held → HaveFirst held rows → IsFilled 0 held (blanks count) rows
first_filled column count bytes held rows fills made =
    mid_filled 0 count column bytes held (blanks count) rows (sym (length-replicate count blank)) fills (blanks_short count) (first_made column count bytes held rows fills made)

first_count : (column : Column) (count : ℕ) (bytes : List ℕ) (held : List Cell) (rows : List FullRow) → FillColumn column 0 count bytes held → HaveFirst held rows → length rows ≡ count
first_count column count bytes held rows fills made = (first_filled column count bytes held rows fills made).as_many ∙ length-replicate count blank

pub all_columns : (file : List ℕ) (columns others : List Column) (group : Group) (column : Column) (chunk : ChunkPlace) (more : List ChunkPlace) (held : List Cell) (mid after : List FullRow)
    → columns ≡ column ∷ others → group.chunks ≡ chunk ∷ more
    → FillColumn column 0 group.row_count (chunk_bytes file chunk) held × ((other : List Cell) → FillColumn column 0 group.row_count (chunk_bytes file chunk) other → map fitted other ≡ held)
    → HaveFirst held mid → AreFilled file (length mid) 1 others more mid after
    → AreFilled file (length (blanks group.row_count)) 0 columns group.chunks (blanks group.row_count) after
all_columns file columns others group column chunk more held mid after is are fills made filled =
    let count = group.row_count in
    columns_filled file 0 count column others columns chunk more group.chunks held (blanks count) mid after (sym (length-replicate count blank)) is are fills (blanks_short count)
    (first_made column count (chunk_bytes file chunk) held mid fills.0 made) filled

pub group_is : (file : List ℕ) (columns : List Column) (group : Group) (rows : List FullRow)
    → AreFilled file (length (blanks group.row_count)) 0 columns group.chunks (blanks group.row_count) rows → IsGroupOf file columns group rows
group_is file columns group rows are =
    let len = length-replicate group.row_count blank in
    record {
      counted = are.as_many ∙ len;
      as_long = long rows are.as_long;
      held = subst (λ (n : ℕ). HoldColumns file n 0 columns group.chunks rows) len are.held;
    }
  where
    long : (rs : List FullRow) → AllByRecursion (λ row. length row.cells ≡ 0 + length columns - 5) rs → AllByRecursion (λ row. length row.cells ≡ length columns - 5) rs
    long [] all = tt
    long (r ∷ rs) all = (omega (arith, all.0), long rs all.1)

-- ---- the columns behind the first

pub others_refuse : (X Y : Type 0) (file : List ℕ) (columns others : List Column) (group : Group) (column : Column) (chunk : ChunkPlace) (more : List ChunkPlace) (held : List Cell) (mid : List FullRow) (e : ParquetError)
    → columns ≡ column ∷ others → group.chunks ≡ chunk ∷ more → FillColumn column 0 group.row_count (chunk_bytes file chunk) held → HaveFirst held mid
    → Refuses {X = X} (HoldColumns file (length mid) 1 others more) (Err e) → Refuses {X = Y} (IsGroupOf file columns group) (Err e)
others_refuse X Y file columns others group column chunk more held mid e is are fills made none =
    let count = first_count column group.row_count (chunk_bytes file chunk) held mid fills made in
    refuses_more X Y (HoldColumns file group.row_count 0 columns group.chunks) (IsGroupOf file columns group) e (λ rows is_group. (rows, is_group.held)) (
    other_columns_refuse {X = X} file 0 group.row_count column others columns chunk more group.chunks (length mid) (Err e) count is are none
    )

pub others_fail : (X Y : Type 0) (file : List ℕ) (columns others : List Column) (group : Group) (column : Column) (chunk : ChunkPlace) (more : List ChunkPlace) (held : List Cell) (mid : List FullRow) (e : ParquetError)
    → columns ≡ column ∷ others → group.chunks ≡ chunk ∷ more → FillColumn column 0 group.row_count (chunk_bytes file chunk) held → HaveFirst held mid
    → TellsFault {X = X} (IsColumnsFault file (length mid) 1 others more) (Err e) → TellsFault {X = Y} (IsColumnsFault file group.row_count 0 columns group.chunks) (Err e)
others_fail X Y file columns others group column chunk more held mid e is are fills made told =
    let many = group.row_count in
    let count = first_count column many (chunk_bytes file chunk) held mid fills made in
    tells_more X Y (IsColumnsFault file many 0 columns group.chunks) (IsColumnsFault file many 0 columns group.chunks) e (λ fault. fault) (
    others_fault {X = X} file many many (length mid) 0 column others columns chunk more group.chunks held (Err e) refl count is are fills told
    )
