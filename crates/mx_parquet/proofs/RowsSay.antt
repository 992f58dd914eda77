-- Rows that are filled column by column have the cells of the columns.
use Rattle.std.proofs.Common.{◌≡◌, ℕ, suc, ◌+◌, ◌-◌, ◌^◌, ◌<◌, min, List, [], ◌∷◌, length, map, take, drop, Result, Ok, Err, refl, sym, ap, subst, ◌∙◌, arith, inl, inr}
use Rattle.std.specs.List.{AllByRecursion}
use Rattle.std.proofs.lemmas.Bool.{cases_lt}
use Rattle.std.proofs.lemmas.List.{length-drop, take_all, drop-take, nil_from_length}
use Rattle.mx_schema.specs.declared.cell.Cell.{Cell}
use Rattle.mx_schema.specs.declared.cell.Cell.TheVariants as cells
use Rattle.mx_schema.specs.declared.column.Column.{Column}
use Rattle.mx_parquet.specs.declared.row.FullRow.{FullRow}
use Rattle.mx_parquet.specs.declared.layout.ChunkPlace.{ChunkPlace}
use Rattle.mx_parquet.specs.declared.error.ParquetError.{ParquetError}
use Rattle.mx_parquet.specs.declared.error.ParquetError.TheVariants as errors
use Rattle.mx_parquet.specs.Columns.{row_cells, cells_at}
use Rattle.mx_parquet.specs.Held.{chunk_bytes}
use Rattle.mx_parquet.specs.Chunks.{fitted, FillPages}
use Rattle.mx_parquet.specs.Filling.{with_cells, MayStand, FillColumn, HoldColumns, AreFilled, Refuses}
use Rattle.mx_parquet.proofs.CellsSay.{IsFilled, filled}

-- ---- a column

pub chunk_front : (file : List ℕ) (chunk : ChunkPlace) (end : ℕ) (front : List ℕ) → length file < 2 ^ 32 → end ≡ min (min (chunk.offset + chunk.size) (2 ^ 64 - 1)) (length file) → front ≡ take end file
    → drop chunk.offset front ≡ chunk_bytes file chunk
chunk_front file chunk end front small end_is is =
    elim (cases_lt (chunk.offset + chunk.size) (length file)) [
      | inl lt ↦
          let at : end ≡ chunk.offset + chunk.size = omega (arith, end_is, small, lt) in
          ap (drop chunk.offset) (is ∙ ap (λ (n : ℕ). take n file) at) ∙ drop-take chunk.offset chunk.size file
      | inr ge ↦
          let whole : front ≡ file = is ∙ take_all end file (omega (arith, end_is, small, ge)) in
          ap (drop chunk.offset) whole ∙ sym (take_all chunk.size (drop chunk.offset file) (omega (arith, length-drop chunk.offset file, ge)))
    ]

fitted_may : (place : ℕ) (held : List Cell) → AllByRecursion (MayStand place) held → AllByRecursion (MayStand place) (map fitted held)
fitted_may place [] may = tt
fitted_may place (cells.Null ∷ held) may = (may.0, fitted_may place held may.1)
fitted_may place (cells.Flag flag ∷ held) may = (may.0, fitted_may place held may.1)
fitted_may place (cells.Small n ∷ held) may = (may.0, fitted_may place held may.1)
fitted_may place (cells.Whole n ∷ held) may = (may.0, fitted_may place held may.1)
fitted_may place (cells.Text text ∷ held) may = (may.0, fitted_may place held may.1)

pub may_not : (column : Column) (place count : ℕ) (bytes here : List ℕ) (cells seen : List Cell) → here ≡ bytes → ((held : List Cell) → FillPages column count here held → map fitted held ≡ cells)
    → seen ≡ cells → (AllByRecursion (MayStand place) seen → ⊥) → (held : List Cell) → FillColumn column place count bytes held → ⊥
may_not column place count bytes here cells seen is only same none held fills =
    let read = only held (subst (λ (b : List ℕ). FillPages column count b held) (sym is) fills.0) in
    none (subst (AllByRecursion (MayStand place)) (read ∙ sym same) (fitted_may place held fills.1))

-- ---- columns from a place on

-- what refuses one condition refuses each that asks for it
pub refuses_more : {A B : Type 0} (X Y : Type 0) (One : A → Type 0) (More : B → Type 0) (e : ParquetError) → ((b : B) → More b → (a : A) × One a) → Refuses {X = X} One (Err e) → Refuses {X = Y} More (Err e)
refuses_more X Y One More errors.NoMemory also none = tt
refuses_more X Y One More (errors.BadParquet at) also none = λ b is. let p = also b is in none p.0 p.1
refuses_more X Y One More (errors.Unsupported what) also none = λ b is. let p = also b is in none p.0 p.1

pub no_columns : (file : List ℕ) (place : ℕ) (before : List FullRow) → AllByRecursion (λ row. length row.cells ≡ place - 5) before → AreFilled file (length before) place [] [] before before
no_columns file place before short = record { held = tt; kept = λ other lt. refl; as_many = refl; as_long = as_before before short; only = λ others held. tt }
  where
    as_before : (rows : List FullRow) → AllByRecursion (λ row. length row.cells ≡ place - 5) rows → AllByRecursion (λ row. length row.cells ≡ place + 0 - 5) rows
    as_before [] short = tt
    as_before (row ∷ rows) short = (omega (arith, short.0), as_before rows short.1)

pub column_filled : (file : List ℕ) (place count : ℕ) (column : Column) (columns : List Column) (chunk : ChunkPlace) (chunks : List ChunkPlace) (held : List Cell) (before mid after : List FullRow) → count ≡ length before
    → FillColumn column place count (chunk_bytes file chunk) held × ((other : List Cell) → FillColumn column place count (chunk_bytes file chunk) other → map fitted other ≡ held)
    → AllByRecursion (λ row. length row.cells ≡ place - 5) before → map row_cells mid ≡ with_cells place held before
    → AreFilled file (length mid) (place + 1) columns chunks mid after → AreFilled file (length before) place (column ∷ columns) (chunk ∷ chunks) before after
column_filled file place count column columns chunk chunks held before mid after many fills short is others =
    let f = filled place held before mid (fills.0.0.1 ∙ many) fills.0.1 short is in
    let here : cells_at place after ≡ held = others.kept place (omega arith) ∙ f.here in
    record {
      held = (
        subst (λ (n : ℕ). FillColumn column place n (chunk_bytes file chunk) (cells_at place after)) many (subst (FillColumn column place count (chunk_bytes file chunk)) (sym here) fills.0),
        subst (λ (n : ℕ). HoldColumns file n (place + 1) columns chunks after) f.as_many others.held,
      );
      kept = λ other lt. others.kept other (omega (arith, lt)) ∙ f.kept other lt;
      as_many = others.as_many ∙ f.as_many;
      as_long = as_long after others.as_long;
      only = λ rows holds. (
        fills.1 (cells_at place rows) (subst (λ (n : ℕ). FillColumn column place n (chunk_bytes file chunk) (cells_at place rows)) (sym many) holds.0) ∙ sym here,
        others.only rows (subst (λ (n : ℕ). HoldColumns file n (place + 1) columns chunks rows) (sym f.as_many) holds.1),
      );
    }
  where
    as_long : (rows : List FullRow) → AllByRecursion (λ row. length row.cells ≡ place + 1 + length columns - 5) rows → AllByRecursion (λ row. length row.cells ≡ place + suc (length columns) - 5) rows
    as_long [] long = tt
    as_long (row ∷ rows) long = (omega (arith, long.0), as_long rows long.1)

-- ---- columns that are left

pub other_columns_refuse : {X : Type 0} (file : List ℕ) (place many : ℕ) (column : Column) (columns all : List Column) (chunk : ChunkPlace) (chunks places : List ChunkPlace) (mid : ℕ) (r : Result X ParquetError) → mid ≡ many
    → all ≡ column ∷ columns → places ≡ chunk ∷ chunks → Refuses (HoldColumns file mid (place + 1) columns chunks) r → Refuses (HoldColumns file many place all places) r
other_columns_refuse file place many column columns all chunk chunks places mid (Ok x) same is are none = tt
other_columns_refuse {X} file place many column columns all chunk chunks places mid (Err e) same is are none =
    refuses_more X X (HoldColumns file mid (place + 1) columns chunks) (HoldColumns file many place all places) e
    (
    λ rows held.
    let parts = subst (λ (ps : List ChunkPlace). HoldColumns file many place (column ∷ columns) ps rows) are (subst (λ (cs : List Column). HoldColumns file many place cs places rows) is held) in
    (rows, subst (λ (n : ℕ). HoldColumns file n (place + 1) columns chunks rows) (sym same) parts.1)
    )
    none

pub all_filled : (file : List ℕ) (place : ℕ) (columns : List Column) (chunks : List ChunkPlace) (before : List FullRow) → length columns ≡ 0 → AllByRecursion (λ row. length row.cells ≡ place - 5) before → chunks ≡ []
    → AreFilled file (length before) place columns chunks before before
all_filled file place columns chunks before none short is =
    subst (λ (cs : List ChunkPlace). AreFilled file (length before) place columns cs before before) (sym is) (
    subst (λ (cs : List Column). AreFilled file (length before) place cs [] before before) (sym (nil_from_length columns none)) (no_columns file place before short)
    )

pub columns_filled : (file : List ℕ) (place count : ℕ) (column : Column) (columns all : List Column) (chunk : ChunkPlace) (chunks places : List ChunkPlace) (held : List Cell) (before mid after : List FullRow) → count ≡ length before
    → all ≡ column ∷ columns → places ≡ chunk ∷ chunks → FillColumn column place count (chunk_bytes file chunk) held × ((other : List Cell) → FillColumn column place count (chunk_bytes file chunk) other → map fitted other ≡ held)
    → AllByRecursion (λ row. length row.cells ≡ place - 5) before → map row_cells mid ≡ with_cells place held before
    → AreFilled file (length mid) (place + 1) columns chunks mid after → AreFilled file (length before) place all places before after
columns_filled file place count column columns all chunk chunks places held before mid after many is are fills short made others =
    subst (λ (ps : List ChunkPlace). AreFilled file (length before) place all ps before after) (sym are) (
    subst (λ (cs : List Column). AreFilled file (length before) place cs (chunk ∷ chunks) before after) (sym is) (
    column_filled file place count column columns chunk chunks held before mid after many fills short made others
    )
    )

pub mid_filled : (place count : ℕ) (column : Column) (bytes : List ℕ) (held : List Cell) (before mid : List FullRow) → count ≡ length before → FillColumn column place count bytes held
    → AllByRecursion (λ row. length row.cells ≡ place - 5) before → map row_cells mid ≡ with_cells place held before → IsFilled place held before mid
mid_filled place count column bytes held before mid many fills short made = filled place held before mid (fills.0.1 ∙ many) fills.1 short made
