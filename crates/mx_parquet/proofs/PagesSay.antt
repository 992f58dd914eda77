-- What is read of a page are the cells that it stands for.
use Rattle.std.proofs.Common.{◌≡◌, ℕ, ◌^◌, ◌<◌, Bool, true, false, IsTrue, List, [], ◌∷◌, ◌++◌, length, map, drop, flat_map, replicate, Result, Ok, Err, refl, sym, ap, subst, ◌∙◌, length-append, zero, suc, ◌⊎◌, inl, inr, arith}
use Rattle.std.specs.Int.{w32}
use Rattle.std.specs.List.{AllByRecursion}
use Rattle.std.proofs.lemmas.List.{length-take, length-map, length-replicate, drop_at}
use Rattle.mx_lists.proofs.Codecs.{IsBytes, IsBytes-drop}
use Rattle.mx_schema.specs.declared.cell.Cell.{Cell}
use Rattle.mx_schema.specs.declared.cell.Cell.TheVariants as cells
use Rattle.mx_schema.specs.declared.column.Column.{Column}
use Rattle.mx_levels.specs.Encoding.{run_levels}
use Rattle.mx_levels.specs.Decoding as levels
use Rattle.mx_levels.specs.declared.error.LevelError.{LevelError}
use Rattle.mx_levels.specs.declared.error.LevelError.TheVariants as level_errors
use Rattle.mx_parquet.specs.declared.error.Flaw.{Flaw}
use Rattle.mx_parquet.specs.declared.error.Failure.{Failure}
use Rattle.mx_parquet.specs.declared.error.Failure.TheVariants as failures
use Rattle.mx_parquet.specs.Pages.{number, is_present}
use Rattle.mx_parquet.specs.Decoding.{IsHeldBy, AreLevels, IsPageOf}
use Rattle.mx_parquet.specs.Reading.{Answers}
use Rattle.mx_parquet.specs.Values.{sized_in, cells_in}
use Rattle.mx_parquet.specs.Chunks.{fitted, Reads, FindsOne, IsOfKind, AreCells, AreLevelsIn}
use Rattle.mx_parquet.proofs.Said.{good, ok_is}
use Rattle.mx_parquet.proofs.ValuesSay.{sized_says, sized_reads, cells_say, cells_read}

-- ---- levels

pub levels_found : (body : List ℕ) (count : ℕ) (found items : List Bool) → found ≡ items → levels.Decodes body count items
    → ((ls : List Bool) → levels.Decodes body count ls → items ≡ ls)
    → levels.Decodes body count found × ((ls : List Bool) → levels.Decodes body count ls → ls ≡ found)
levels_found body count found items is decodes only = (subst (levels.Decodes body count) (sym is) decodes, λ ls d. sym (is ∙ only ls d))

pub bad_run : (e : LevelError) (at : ℕ) → e ≡ level_errors.BadRun at → e ≡ level_errors.NoMemory → ⊥
bad_run e at is none = not_none at (sym is ∙ none)
  where
    not_none : (at : ℕ) → level_errors.BadRun at ≡ level_errors.NoMemory → ⊥
    not_none at e = absurd cc

sized_is : (bytes body : List ℕ) (x : List ℕ × List ℕ) (y : List ℕ) → sized_in bytes ≡ Ok x → length body < 2 ^ 32 → bytes ≡ number w32 (length body) ++ body ++ y → (body, y) ≡ x
sized_is bytes body x y e short parts =
    let again : good (body, y) ≡ Ok x = sym (ap sized_in parts ∙ sized_reads body y short) ∙ e in
    ok_is (body, y) x again

pub no_levels : (flaw : Flaw) (nullable : Bool) (count : ℕ) (bytes : List ℕ) → nullable ≡ true → sized_in bytes ≡ Err flaw
    → (x : List Bool × List ℕ) → AreLevelsIn nullable count bytes x → ⊥
no_levels flaw true count bytes is e x (body, short, parts, decodes) = not_both flaw (ap sized_in parts ∙ sized_reads body x.1 short) e
  where
    not_both : {A : Type 0} {r : Result A Flaw} {x : A} (flaw : Flaw) → r ≡ Ok x → r ≡ Err flaw → ⊥
    not_both flaw e f = absurd cc
no_levels flaw false count bytes is e x are = absurd cc

abbrev pub seen_levels : List Bool × List ℕ → List Bool × List ℕ
seen_levels x = x

pub bad_levels : (e : Failure) (nullable : Bool) (count : ℕ) (bytes body rest : List ℕ) → nullable ≡ true → sized_in bytes ≡ Ok (body, rest)
    → FindsOne {X = List Bool} {A = List Bool} (λ x. x) (levels.Decodes body count) (Err e) → FindsOne {X = List Bool × List ℕ} {A = List Bool × List ℕ} seen_levels (AreLevelsIn nullable count bytes) (Err e)
bad_levels e false count bytes body rest is s none = absurd cc
bad_levels failures.NoMemory true count bytes body rest is s none = tt
bad_levels (failures.Flawed flaw) true count bytes body rest is s none = λ x are.
    let same = sized_is bytes are.0 (body, rest) x.1 s are.1 are.2 in
    none x.0 (subst (λ (p : List ℕ × List ℕ). levels.Decodes p.0 count x.0) same are.3)

pub good_levels : (nullable : Bool) (count : ℕ) (bytes body rest : List ℕ) (found : List Bool) → nullable ≡ true → IsBytes bytes → sized_in bytes ≡ Ok (body, rest)
    → levels.Decodes body count found × ((ls : List Bool) → levels.Decodes body count ls → ls ≡ found)
    → AreLevelsIn nullable count bytes (found, rest) × ((x : List Bool × List ℕ) → AreLevelsIn nullable count bytes x → x ≡ (found, rest))
good_levels false count bytes body rest found is fits e one = absurd cc
good_levels true count bytes body rest found is fits e one =
    let s = sized_says bytes (body, rest) fits e in (
      (body, s.short, s.parts, one.0),
      λ x are.
          let same = sized_is bytes are.0 (body, rest) x.1 e are.1 are.2 in
          let first : x.0 ≡ found = one.1 x.0 (subst (λ (p : List ℕ × List ℕ). levels.Decodes p.0 count x.0) same are.3) in
          let second : x.1 ≡ rest = ap (λ (p : List ℕ × List ℕ). p.1) same in
          ap (λ (ls : List Bool). (ls, x.1)) first ∙ ap (λ (r : List ℕ). (found, r)) second,
    )

-- ---- cells

kinded : (column : Column) (held : List Cell) → AllByRecursion (IsHeldBy column) held → AllByRecursion (IsOfKind column.kind) held
kinded column [] each = tt
kinded column (cells.Null ∷ held) each = (tt, kinded column held each.1)
kinded column (cells.Flag flag ∷ held) each = (each.0, kinded column held each.1)
kinded column (cells.Small n ∷ held) each = (each.0, kinded column held each.1)
kinded column (cells.Whole n ∷ held) each = (each.0, kinded column held each.1)
kinded column (cells.Text text ∷ held) each = (each.0, kinded column held each.1)

-- of a column without nulls
all_present : (column : Column) (held : List Cell) → column.nullable ≡ false → AllByRecursion (IsHeldBy column) held → map is_present held ≡ replicate (length held) true
all_present column [] is each = refl
all_present column (cells.Null ∷ held) is each = absurd (not_true column.nullable is each.0)
  where
    not_true : (b : Bool) → b ≡ false → IsTrue b → ⊥
    not_true false is t = absurd cc
    not_true true is t = absurd cc
all_present column (cells.Flag flag ∷ held) is each = ap (λ (ls : List Bool). true ∷ ls) (all_present column held is each.1)
all_present column (cells.Small n ∷ held) is each = ap (λ (ls : List Bool). true ∷ ls) (all_present column held is each.1)
all_present column (cells.Whole n ∷ held) is each = ap (λ (ls : List Bool). true ∷ ls) (all_present column held is each.1)
all_present column (cells.Text text ∷ held) is each = ap (λ (ls : List Bool). true ∷ ls) (all_present column held is each.1)

-- a null stands only where a level is false
held_by : (column : Column) (held : List Cell) → AllByRecursion (λ level. IsTrue column.nullable ⊎ (level ≡ true)) (map is_present held) → AllByRecursion (IsOfKind column.kind) held → AllByRecursion (IsHeldBy column) held
held_by column [] levels each = tt
held_by column (cells.Null ∷ held) levels each = (null levels.0, held_by column held levels.1 each.1)
  where
    null : {A : Type 0} → A ⊎ (false ≡ true) → A
    null (inl a) = a
    null (inr e) = absurd cc
held_by column (cells.Flag flag ∷ held) levels each = (each.0, held_by column held levels.1 each.1)
held_by column (cells.Small n ∷ held) levels each = (each.0, held_by column held levels.1 each.1)
held_by column (cells.Whole n ∷ held) levels each = (each.0, held_by column held levels.1 each.1)
held_by column (cells.Text text ∷ held) levels each = (each.0, held_by column held levels.1 each.1)

all_true : (A : Type 0) (count : ℕ) → AllByRecursion (λ level. A ⊎ (level ≡ true)) (replicate count true)
all_true A zero = tt
all_true A (suc count) = (inr refl, all_true A count)

all_allowed : {A : Type 0} (ls : List Bool) → A → AllByRecursion (λ level. A ⊎ (level ≡ true)) ls
all_allowed [] a = tt
all_allowed (l ∷ ls) a = (inl a, all_allowed ls a)

-- ---- a page

-- what a page has behind its levels
pub record Levelled (column : Column) (count : ℕ) (bytes : List ℕ) (held : List Cell) : Type 0 where
  pub rest : List ℕ
  pub levelled : AreLevelsIn column.nullable count bytes (map is_present held, rest)
  pub celled : AreCells column.kind (map is_present held) rest held

page_levels : (column : Column) (nullable : Bool) (count : ℕ) (bytes : List ℕ) (held : List Cell) → column.nullable ≡ nullable → (is : IsPageOf column bytes held) → length held ≡ count
    → AreLevelsIn nullable count bytes (map is_present held, is.rest)
page_levels column false count bytes held none is len =
    let front : is.front ≡ [] = subst (λ (b : Bool). AreLevels b is.front held) none is.levelled in
    (all_present column held none is.each ∙ ap (λ (n : ℕ). replicate n true) len, sym (is.parts ∙ ap (λ (f : List ℕ). f ++ is.rest) front))
page_levels column true count bytes held some is len =
    let l = subst (λ (b : Bool). AreLevels b is.front held) some is.levelled in (
      l.0,
      l.1,
      is.parts ∙ ap (λ (f : List ℕ). f ++ is.rest) l.2,
      subst (λ (n : ℕ). levels.Decodes l.0 n (map is_present held)) len l.3,
    )

pub page_has : (column : Column) (count : ℕ) (bytes : List ℕ) (held : List Cell) → IsPageOf column bytes held × (length held ≡ count) → Levelled column count bytes held
page_has column count bytes held (is, len) = record {
  rest = is.rest;
  levelled = page_levels column column.nullable count bytes held refl is len;
  celled = record { present = refl; valued = is.valued; each = kinded column held is.each };
}

levels_count : (body : List ℕ) (count : ℕ) (ls : List Bool) → levels.Decodes body count ls → length ls ≡ count
levels_count body count ls d = omega (arith, ap length d.first, length-take count (flat_map run_levels d.runs), d.enough)

page_by : (column : Column) (nullable : Bool) (count : ℕ) (bytes : List ℕ) (ls : List Bool) (rest : List ℕ) (held : List Cell) → column.nullable ≡ nullable
    → AreLevelsIn nullable count bytes (ls, rest) → AreCells column.kind ls rest held → IsPageOf column bytes held × (length held ≡ count)
page_by column false count bytes ls rest held none are is =
    let len : length held ≡ count = sym (length-map held is_present) ∙ ap length (is.present ∙ are.0) ∙ length-replicate count true in
    let present : map is_present held ≡ replicate count true = is.present ∙ are.0 in (
      record {
        front = [];
        rest = rest;
        parts = sym are.1;
        levelled = subst (λ (b : Bool). AreLevels b [] held) (sym none) refl;
        valued = is.valued;
        each = held_by column held (subst (AllByRecursion (λ level. IsTrue column.nullable ⊎ (level ≡ true))) (sym present) (all_true (IsTrue column.nullable) count)) is.each;
      },
      len,
    )
page_by column true count bytes ls rest held some are is =
    let len : length held ≡ count = sym (length-map held is_present) ∙ ap length is.present ∙ levels_count are.0 count ls are.3 in (
      record {
        front = number w32 (length are.0) ++ are.0;
        rest = rest;
        parts = are.2;
        levelled = subst (λ (b : Bool). AreLevels b (number w32 (length are.0) ++ are.0) held) (sym some) (
          are.0,
          are.1,
          refl,
          subst (λ (n : ℕ). levels.Decodes are.0 n (map is_present held)) (sym len) (subst (levels.Decodes are.0 count) (sym is.present) are.3),
        );
        valued = is.valued;
        each = held_by column held (all_allowed (map is_present held) some) is.each;
      },
      len,
    )

pub no_page : (e : Failure) (column : Column) (count : ℕ) (bytes : List ℕ) → FindsOne {X = List Bool × List ℕ} {A = List Bool × List ℕ} seen_levels (AreLevelsIn column.nullable count bytes) (Err e)
    → Reads (λ held. IsPageOf column bytes held × (length held ≡ count)) (Err e)
no_page failures.NoMemory column count bytes none = tt
no_page (failures.Flawed flaw) column count bytes none = λ held is.
    let l = page_has column count bytes held is in none (map is_present held, l.rest) l.levelled

-- what a page has is read of it
cells_of_page : (column : Column) (count : ℕ) (bytes : List ℕ) (ls : List Bool) (rest : List ℕ) (held : List Cell) → length rest < 2 ^ 32
    → ((x : List Bool × List ℕ) → AreLevelsIn column.nullable count bytes x → x ≡ (ls, rest)) → IsPageOf column bytes held × (length held ≡ count)
    → cells_in column.kind ls rest ≡ Ok (map fitted held)
cells_of_page column count bytes ls rest held short only is =
    let l = page_has column count bytes held is in
    let same = only (map is_present held, l.rest) l.levelled in
    let are : AreCells column.kind ls rest held = subst (λ (x : List Bool × List ℕ). AreCells column.kind x.0 x.1 held) same l.celled in
    cells_read column.kind ls rest held short are

pub page_read : (column : Column) (count : ℕ) (bytes : List ℕ) (ls : List Bool) (rest : List ℕ) (r : Result (List Cell) Failure) → length rest < 2 ^ 32 → IsBytes rest
    → AreLevelsIn column.nullable count bytes (ls, rest) → ((x : List Bool × List ℕ) → AreLevelsIn column.nullable count bytes x → x ≡ (ls, rest))
    → Answers r (cells_in column.kind ls rest) → Reads (λ held. IsPageOf column bytes held × (length held ≡ count)) r
page_read column count bytes ls rest (Ok held) short fits are only e = (
  page_by column column.nullable count bytes ls rest held refl are (cells_say column.kind ls rest held fits e),
  λ other is. ok_is (map fitted other) held (sym (cells_of_page column count bytes ls rest other short only is) ∙ e),
)
page_read column count bytes ls rest (Err failures.NoMemory) short fits are only e = tt
page_read column count bytes ls rest (Err (failures.Flawed flaw)) short fits are only e = λ held is. no_answer (cells_of_page column count bytes ls rest held short only is) e
  where
    no_answer : {r : Result (List Cell) Flaw} {x : List Cell} {flaw : Flaw} → r ≡ Ok x → r ≡ Err flaw → ⊥
    no_answer e f = absurd cc

pub rest_short : (nullable : Bool) (count : ℕ) (bytes : List ℕ) (ls : List Bool) (rest : List ℕ) → AreLevelsIn nullable count bytes (ls, rest) → length bytes < 2 ^ 32 → length rest < 2 ^ 32
rest_short false count bytes ls rest are short = subst (λ (b : List ℕ). length b < 2 ^ 32) (sym are.1) short
rest_short true count bytes ls rest are short =
    omega (arith, ap length are.2, length-append (number w32 (length are.0) ++ are.0) rest, short)

pub rest_fits : (nullable : Bool) (count : ℕ) (bytes : List ℕ) (ls : List Bool) (rest : List ℕ) → AreLevelsIn nullable count bytes (ls, rest) → IsBytes bytes → IsBytes rest
rest_fits false count bytes ls rest are fits = subst IsBytes (sym are.1) fits
rest_fits true count bytes ls rest are fits =
    let front = number w32 (length are.0) ++ are.0 in
    let behind : drop (length front) bytes ≡ rest = ap (drop (length front)) are.2 ∙ drop_at front rest (length front) refl in
    subst IsBytes behind (IsBytes-drop (length front) bytes fits)
