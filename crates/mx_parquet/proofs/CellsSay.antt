-- Rows to which a column is added have its cells, and the cells that they had.
use Rattle.std.proofs.Common.{◌≡◌, ℕ, suc, ◌+◌, ◌-◌, ◌<◌, ◌≤◌, Bool, true, false, cond, ltb, get_or, List, [], ◌∷◌, ◌++◌, length, map, take, drop, set, refl, sym, ap, subst, ◌∙◌, append_assoc, length-append, arith}
use Rattle.std.specs.List.{AllByRecursion}
use Rattle.std.proofs.lemmas.Bool.{ltb-true, ltb-false}
use Rattle.std.proofs.lemmas.List.{length-set, length-map, length-take, get_or-set_same, get_or-set_other, get_or-take, get_or_at, take-take, take-set, take_at, take-append-drop, drop-set, drop_at, drop_more}
use Rattle.mx_schema.specs.declared.cell.Cell.{Cell}
use Rattle.mx_schema.specs.declared.cell.Cell.TheVariants as cells
use Rattle.mx_parquet.specs.declared.row.FullRow.{FullRow}
use Rattle.mx_parquet.specs.Columns.{row_cells, cell_at, cells_at}
use Rattle.mx_parquet.specs.Filling.{with_cell, with_cells, MayStand}

-- ---- one row

abbrev pub at_place : ℕ → List Cell → Cell
at_place place row = get_or row place cells.Null

-- a row with the cells of the columns before a place
abbrev pub HasBefore : ℕ → List Cell → Type 0
HasBefore place row = length row ≡ 5 + (place - 5)

pushed_at : (place : ℕ) (cell : Cell) (row : List Cell) → 5 ≤ place → HasBefore place row → at_place place (row ++ cell ∷ []) ≡ cell
pushed_at place cell row le before = get_or_at row cell [] cells.Null place (omega (arith, before, le))

pushed_before : (other : ℕ) (cell : Cell) (row : List Cell) → other < length row → at_place other (row ++ cell ∷ []) ≡ at_place other row
pushed_before other cell row lt =
    sym (get_or-take (length row) (row ++ cell ∷ []) other cells.Null lt) ∙ ap (λ (r : List Cell). get_or r other cells.Null) (take_at row (cell ∷ []) (length row) refl)

pushed-length : (place : ℕ) (cell : Cell) (row : List Cell) → 5 ≤ place → HasBefore place row → HasBefore (place + 1) (row ++ cell ∷ [])
pushed-length place cell row le before = omega (arith, length-append row (cell ∷ []), before, le)

-- a row with one more cell
record Gains (place : ℕ) (cell : Cell) (row new : List Cell) : Type 0 where
  pub here : at_place place new ≡ cell
  pub before : (other : ℕ) → other < place → at_place other new ≡ at_place other row
  pub long : HasBefore (place + 1) new

pushed : (place : ℕ) (cell : Cell) (row : List Cell) → 5 ≤ place → HasBefore place row → Gains place cell row (row ++ cell ∷ [])
pushed place cell row le before = record {
  here = pushed_at place cell row le before;
  before = λ other lt. pushed_before other cell row (omega (arith, before, lt, le));
  long = pushed-length place cell row le before;
}

text_by : (place : ℕ) (text : List ℕ) (row : List Cell) (b : Bool) → ltb place 5 ≡ b → HasBefore place row
    → Gains place (cells.Text text) row (cond b (set row place (cells.Text text)) (row ++ cells.Text text ∷ []))
text_by place text row true lt before =
    let few : place < 5 = ltb-true place 5 lt in
    record {
      here = get_or-set_same row place (cells.Text text) cells.Null (omega (arith, before, few));
      before = λ other less. get_or-set_other row place other (cells.Text text) cells.Null (λ e. absurd (omega (arith, e, less)));
      long = omega (arith, length-set row place (cells.Text text), before, few);
    }
text_by place text row false ge before = pushed place (cells.Text text) row (ltb-false place 5 ge) before

gains : (place : ℕ) (cell : Cell) (row : List Cell) → MayStand place cell → HasBefore place row → Gains place cell row (with_cell place cell row)
gains place (cells.Text text) row may before = text_by place text row (ltb place 5) refl before
gains place cells.Null row may before = pushed place cells.Null row may before
gains place (cells.Flag flag) row may before = pushed place (cells.Flag flag) row may before
gains place (cells.Small n) row may before = pushed place (cells.Small n) row may before
gains place (cells.Whole n) row may before = pushed place (cells.Whole n) row may before

-- ---- all rows

pub cells_at-is : (place : ℕ) (rows : List FullRow) → cells_at place rows ≡ map (at_place place) (map row_cells rows)
cells_at-is place [] = refl
cells_at-is place (row ∷ rows) = ap (λ (cs : List Cell). cell_at place row ∷ cs) (cells_at-is place rows)

-- rows with a column more
record Gain (place : ℕ) (held : List Cell) (rows : List FullRow) (new : List (List Cell)) : Type 0 where
  pub here : map (at_place place) new ≡ held
  pub before : (other : ℕ) → other < place → map (at_place other) new ≡ map (at_place other) (map row_cells rows)
  pub long : AllByRecursion (HasBefore (place + 1)) new

abbrev Short : ℕ → FullRow → Type 0
Short place row = length row.cells ≡ place - 5

all_gain : (place : ℕ) (held : List Cell) (rows : List FullRow) → length held ≡ length rows → AllByRecursion (MayStand place) held → AllByRecursion (Short place) rows → Gain place held rows (with_cells place held rows)
all_gain place [] [] same may short = record { here = refl; before = λ other lt. refl; long = tt }
all_gain place [] (row ∷ rows) same may short = absurd (omega (arith, same))
all_gain place (cell ∷ held) [] same may short = absurd (omega (arith, same))
all_gain place (cell ∷ held) (row ∷ rows) same may short =
    let first = gains place cell (row_cells row) may.0 (omega (arith, short.0)) in
    let others = all_gain place held rows (omega (arith, same)) may.1 short.1 in
    record {
      here = ap (λ (c : Cell). c ∷ map (at_place place) (with_cells place held rows)) first.here ∙ ap (λ (cs : List Cell). cell ∷ cs) others.here;
      before = λ other lt.
          ap (λ (c : Cell). c ∷ map (at_place other) (with_cells place held rows)) (first.before other lt)
          ∙ ap (λ (cs : List Cell). at_place other (row_cells row) ∷ cs) (others.before other lt);
      long = (first.long, others.long);
    }

shorts : (place : ℕ) (rows : List FullRow) → AllByRecursion (HasBefore place) (map row_cells rows) → AllByRecursion (Short place) rows
shorts place [] long = tt
shorts place (row ∷ rows) long = (omega (arith, long.0), shorts place rows long.1)

-- what filling a column does
pub record IsFilled (place : ℕ) (held : List Cell) (before after : List FullRow) : Type 0 where
  pub here : cells_at place after ≡ held
  pub kept : (other : ℕ) → other < place → cells_at other after ≡ cells_at other before
  pub as_many : length after ≡ length before
  pub as_long : AllByRecursion (λ row. length row.cells ≡ place + 1 - 5) after

with_cells-length : (place : ℕ) (held : List Cell) (rows : List FullRow) → length held ≡ length rows → length (with_cells place held rows) ≡ length rows
with_cells-length place [] [] same = refl
with_cells-length place [] (row ∷ rows) same = absurd (omega (arith, same))
with_cells-length place (cell ∷ held) [] same = absurd (omega (arith, same))
with_cells-length place (cell ∷ held) (row ∷ rows) same = ap suc (with_cells-length place held rows (omega (arith, same)))

pub filled : (place : ℕ) (held : List Cell) (before after : List FullRow) → length held ≡ length before → AllByRecursion (MayStand place) held → AllByRecursion (λ row. length row.cells ≡ place - 5) before
    → map row_cells after ≡ with_cells place held before → IsFilled place held before after
filled place held before after same may short is =
    let g = all_gain place held before same may short in
    record {
      here = cells_at-is place after ∙ ap (map (at_place place)) is ∙ g.here;
      kept = λ other lt. cells_at-is other after ∙ ap (map (at_place other)) is ∙ g.before other lt ∙ sym (cells_at-is other before);
      as_many = sym (length-map after row_cells) ∙ ap length is ∙ with_cells-length place held before same;
      as_long = shorts (place + 1) after (subst (AllByRecursion (HasBefore (place + 1))) (sym is) g.long);
    }

-- ---- as a loop fills a column, from its last cell on

-- what the loop keeps, with so many cells left
pub record FilledFrom (place left : ℕ) (held : List Cell) (before rows : List FullRow) : Type 0 where
  pub front : take left rows ≡ take left before
  pub back : map row_cells (drop left rows) ≡ with_cells place (drop left held) (drop left before)
  pub len : length rows ≡ length before

last_cell : (held left : List Cell) (cell : Cell) → left ++ cell ∷ [] ≡ take (length (left ++ cell ∷ [])) held → (left ≡ take (length left) held) × (drop (length left) held ≡ cell ∷ drop (suc (length left)) held)
last_cell held left cell is =
    let k = length left in
    let more : length (left ++ cell ∷ []) ≡ suc k = omega (arith, length-append left (cell ∷ [])) in
    let front : left ++ cell ∷ [] ≡ take (suc k) held = is ∙ ap (λ (n : ℕ). take n held) more in
    let all : held ≡ (left ++ cell ∷ []) ++ drop (suc k) held = sym (ap (λ (f : List Cell). f ++ drop (suc k) held) front ∙ take-append-drop (suc k) held) in
    let parts : held ≡ left ++ (cell ∷ drop (suc k) held) = all ∙ append_assoc left (cell ∷ []) (drop (suc k) held) in (
      sym (take_at left (cell ∷ drop (suc k) held) k refl) ∙ ap (take k) (sym parts),
      ap (drop k) parts ∙ drop_at left (cell ∷ drop (suc k) held) k refl,
    )

pub fill_step : (place k : ℕ) (held left now : List Cell) (cell : Cell) (before rows : List FullRow) (row new : FullRow) → now ≡ left ++ cell ∷ [] → now ≡ take (length now) held
    → FilledFrom place (length now) held before rows → k ≡ length left → length held ≡ length before → row ≡ get_or rows k row → row_cells new ≡ with_cell place cell (row_cells row)
    → (left ≡ take (length left) held) × FilledFrom place (length left) held before (set rows k new)
fill_step place k held left now cell before rows row new popped is so_far at same row_is new_is =
    let more : length now ≡ suc k = omega (arith, ap length popped, length-append left (cell ∷ []), at) in
    let c = last_cell held left cell (subst (λ (l : List Cell). l ≡ take (length l) held) popped is) in
    let front : take (suc k) rows ≡ take (suc k) before = subst (λ (n : ℕ). take n rows ≡ take n before) more so_far.front in
    let back : map row_cells (drop (suc k) rows) ≡ with_cells place (drop (suc k) held) (drop (suc k) before) =
    subst (λ (n : ℕ). map row_cells (drop n rows) ≡ with_cells place (drop n held) (drop n before)) more so_far.back in
    let inside : k < length before = omega (arith, more, ap length is, length-take (length now) held, same) in
    let within : k < length rows = omega (arith, so_far.len, inside) in
    let old : get_or before k row ≡ row =
    sym (get_or-take (suc k) before k row (omega arith)) ∙ ap (λ (l : List FullRow). get_or l k row) (sym front) ∙ get_or-take (suc k) rows k row (omega arith) ∙ sym row_is in
    let one : k + 1 ≡ suc k = omega arith in
    let rest : drop k before ≡ row ∷ drop (suc k) before =
    drop_more before k row inside ∙ ap (λ (r : FullRow). r ∷ drop (k + 1) before) old ∙ ap (λ (n : ℕ). row ∷ drop n before) one in
    let after : drop k (set rows k new) ≡ new ∷ drop (suc k) rows = drop-set rows k new within ∙ ap (λ (n : ℕ). new ∷ drop n rows) one in
    let cut : drop k held ≡ cell ∷ drop (suc k) held = subst (λ (n : ℕ). drop n held ≡ cell ∷ drop (suc n) held) (sym at) c.1 in
    let made : FilledFrom place k held before (set rows k new) =
    record {
      front = take-set rows k new ∙ sym (take-take k (suc k) rows (omega arith)) ∙ ap (take k) front ∙ take-take k (suc k) before (omega arith);
      back =
          ap (map row_cells) after ∙ ap (λ (r : List Cell). r ∷ map row_cells (drop (suc k) rows)) new_is
          ∙ ap (λ (rs : List (List Cell)). with_cell place cell (row_cells row) ∷ rs) back
          ∙ ap (λ (rs : List FullRow). with_cells place (cell ∷ drop (suc k) held) rs) (sym rest)
          ∙ ap (λ (cs : List Cell). with_cells place cs (drop k before)) (sym cut);
      len = length-set rows k new ∙ so_far.len;
    } in
    (c.0, subst (λ (n : ℕ). FilledFrom place n held before (set rows k new)) at made)
