-- A page of a column without nulls has bytes for each of its cells.
use Rattle.std.proofs.Common.{◌≡◌, ℕ, ◌*◌, ◌<◌, ◌≤◌, Bool, true, false, IsTrue, ltb, List, [], ◌∷◌, length, map, flat_map, replicate, refl, sym, ap, subst, ◌∙◌, length-append, arith}
use Rattle.std.specs.Int.{w32, w64, cast_unsigned}
use Rattle.std.specs.List.{AllByRecursion}
use Rattle.std.proofs.Math.Nat.{suc-mul}
use Rattle.std.proofs.lemmas.Bool.{ltb-true}
use Rattle.std.proofs.lemmas.List.Concat.{flat_map-cons}
use Rattle.mx_schema.specs.declared.cell.Cell.{Cell}
use Rattle.mx_schema.specs.declared.cell.Cell.TheVariants as cells
use Rattle.mx_schema.specs.declared.column.Column.{Column}
use Rattle.mx_schema.specs.declared.column.ColumnKind.{ColumnKind}
use Rattle.mx_schema.specs.declared.column.ColumnKind.TheVariants as kinds
use Rattle.mx_parquet.specs.Pages.{number, is_present, plain, truths}
use Rattle.mx_parquet.specs.Decoding.{AreValues, IsPageOf}
use Rattle.mx_parquet.specs.Values.{most_values}
use Rattle.mx_parquet.specs.Chunks.{IsOfKind, AreLevelsIn}
use Rattle.mx_parquet.proofs.Numbers.{number32-length, number64-length}
use Rattle.mx_parquet.proofs.PagesSay.{page_has}

-- the fewest bytes of a value
fewest_bytes : ColumnKind → ℕ
fewest_bytes kinds.Boolean = 0
fewest_bytes kinds.Int32 = 4
fewest_bytes kinds.Int64 = 8
fewest_bytes kinds.Text = 4

-- the fewest truth values of a value
fewest_truths : ColumnKind → ℕ
fewest_truths kinds.Boolean = 1
fewest_truths kinds.Int32 = 0
fewest_truths kinds.Int64 = 0
fewest_truths kinds.Text = 0

plain-long : (kind : ColumnKind) (cell : Cell) → is_present cell ≡ true → IsOfKind kind cell → fewest_bytes kind ≤ length (plain cell)
unfolding fewest_bytes
plain-long kind cells.Null present is = absurd cc
plain-long kind (cells.Flag flag) present is = let few : fewest_bytes kind ≡ 0 = ap fewest_bytes is in omega (arith, few)
plain-long kind (cells.Small n) present is = let few : fewest_bytes kind ≡ 4 = ap fewest_bytes is in omega (arith, few, number32-length (cast_unsigned w32 n))
plain-long kind (cells.Whole n) present is = let few : fewest_bytes kind ≡ 8 = ap fewest_bytes is in omega (arith, few, number64-length (cast_unsigned w64 n))
plain-long kind (cells.Text text) present is =
    let few : fewest_bytes kind ≡ 4 = ap fewest_bytes is.0 in omega (arith, few, length-append (number w32 (length text)) text, number32-length (length text))

truths-long : (kind : ColumnKind) (cell : Cell) → is_present cell ≡ true → IsOfKind kind cell → fewest_truths kind ≤ length (truths cell)
unfolding fewest_truths
truths-long kind cells.Null present is = absurd cc
truths-long kind (cells.Flag flag) present is = let few : fewest_truths kind ≡ 1 = ap fewest_truths is in omega (arith, few)
truths-long kind (cells.Small n) present is = let few : fewest_truths kind ≡ 0 = ap fewest_truths is in omega (arith, few)
truths-long kind (cells.Whole n) present is = let few : fewest_truths kind ≡ 0 = ap fewest_truths is in omega (arith, few)
truths-long kind (cells.Text text) present is = let few : fewest_truths kind ≡ 0 = ap fewest_truths is.0 in omega (arith, few)

all_long : {A : Type 0} (parts : Cell → List A) (few : ℕ) (kind : ColumnKind) → ((cell : Cell) → is_present cell ≡ true → IsOfKind kind cell → few ≤ length (parts cell))
    → (held : List Cell) → map is_present held ≡ replicate (length held) true → AllByRecursion (IsOfKind kind) held → length held * few ≤ length (flat_map parts held)
all_long parts few kind long [] present each = omega arith
all_long parts few kind long (cell ∷ held) present each =
    let first : is_present cell ≡ true = cc in
    let others : map is_present held ≡ replicate (length held) true = cc in
    let whole = ap length (flat_map-cons parts cell held) ∙ length-append (parts cell) (flat_map parts held) in
    omega (arith, whole, suc-mul (length held) few, long cell first each.0, all_long parts few kind long held others each.1)

few_values : (kind : ColumnKind) (bytes : List ℕ) (held : List Cell) → AreValues kind bytes held → map is_present held ≡ replicate (length held) true → AllByRecursion (IsOfKind kind) held
    → length held ≤ most_values kind (length bytes)
unfolding fewest_truths fewest_bytes
few_values kinds.Boolean bytes held are present each = omega (arith, are.0, all_long truths 1 kinds.Boolean (truths-long kinds.Boolean) held present each)
few_values kinds.Int32 bytes held are present each = omega (arith, ap length are, all_long plain 4 kinds.Int32 (plain-long kinds.Int32) held present each)
few_values kinds.Int64 bytes held are present each = omega (arith, ap length are, all_long plain 8 kinds.Int64 (plain-long kinds.Int64) held present each)
few_values kinds.Text bytes held are present each = omega (arith, ap length are, all_long plain 4 kinds.Text (plain-long kinds.Text) held present each)

less : (a b : ℕ) (t : Bool) → ltb a b ≡ t → IsTrue t → a < b
less a b true e is = ltb-true a b e
less a b false e is = absurd cc

pub too_short : (column : Column) (count : ℕ) (bytes : List ℕ) (most : ℕ) → column.nullable ≡ false → most ≡ most_values column.kind (length bytes) → IsTrue (ltb most count)
    → (held : List Cell) → IsPageOf column bytes held × (length held ≡ count) → ⊥
too_short column count bytes most none most_is few held is =
    let l = page_has column count bytes held is in
    let levels = subst (λ (b : Bool). AreLevelsIn b count bytes (map is_present held, l.rest)) none l.levelled in
    let present = levels.0 ∙ ap (λ (n : ℕ). replicate n true) (sym is.1) in
    let room = few_values column.kind l.rest held l.celled.valued present l.celled.each in
    let whole : most_values column.kind (length l.rest) ≡ most_values column.kind (length bytes) = ap (λ (b : List ℕ). most_values column.kind (length b)) levels.1 in
    absurd (omega (arith, less most count _ refl few, most_is, is.1, room, whole))
