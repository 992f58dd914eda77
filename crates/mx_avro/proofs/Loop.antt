-- What is read in turns is what is read at once.
use Rattle.std.proofs.Common.{◌≡◌, ℕ, zero, suc, ◌+◌, ◌-◌, ◌*◌, ◌^◌, ◌<◌, ◌≤◌, true, false, cond, eqb, ltb, ◌&&◌, List, [], ◌∷◌, length, get_or, drop, add-one, drop-cons, Result, Ok, Err, refl, sym, ap, ◌∙◌, arith, inl, inr}
use Rattle.std.proofs.lemmas.Bool.{cases_eq, cases_lt}
use Rattle.std.proofs.lemmas.Bool.Decides.{nat_tests}
use Rattle.std.proofs.Math.ListN.{drop_of_length-le}
use Rattle.std.proofs.Math.Nat.{pow-le-pow_right, mul-le-mul_left}
use Rattle.mx_avro.specs.declared.error.AvroError.{AvroError}
use Rattle.mx_avro.specs.declared.error.AvroError.TheVariants.{Short, Wide}
use Rattle.mx_avro.specs.Decoding.{joined, groups_at, widens}

-- the number of some bytes, with what is read of the bytes behind them
abbrev pub so_far : ℕ → ℕ → ℕ → ℕ → Result (ℕ × ℕ) AvroError → Result (ℕ × ℕ) AvroError
so_far at number scale count (Ok high) = cond (ltb 0 count && eqb high.0 0) (Err (Wide at)) (Ok (number + scale * high.0, count + high.1))
so_far at number scale count (Err e) = Err e

pub nothing_so_far : (at : ℕ) (r : Result (ℕ × ℕ) AvroError) → so_far at 0 1 0 r ≡ r
nothing_so_far at (Ok x) =
    let one : 0 + 1 * x.0 ≡ x.0 = omega arith in
    let two : 0 + x.1 ≡ x.1 = omega arith in
    rw (one, two) refl
nothing_so_far at (Err e) = refl

pub is_wide : (at number scale i k b : ℕ) (rest : List ℕ) → i + k ≡ 9 → widens i b ≡ true → so_far at number scale i (groups_at at k (b ∷ rest)) ≡ Err (Wide at)
unfolding groups_at
is_wide at number scale i zero b rest e w = grind (arith, nat_tests)
is_wide at number scale i (suc k) b rest e w = grind (arith, nat_tests)

pub is_last : (at number scale i k b : ℕ) (rest : List ℕ) → i + k ≡ 9 → widens i b ≡ false → b < 128 → so_far at number scale i (groups_at at k (b ∷ rest)) ≡ Ok (number + scale * b, i + 1)
unfolding groups_at
is_last at number scale i zero b rest e w lt = grind (arith, nat_tests)
is_last at number scale i (suc k) b rest e w lt = grind (arith, nat_tests)

joins : (at number scale i b : ℕ) (r : Result (ℕ × ℕ) AvroError) → 128 ≤ b → so_far at number scale i (joined at b r) ≡ so_far at (number + scale * (b - 128)) (scale * 128) (i + 1) r
joins at number scale i b (Ok x) le =
    elim (cases_eq x.0 0) [
      | inl none ↦ grind (arith, nat_tests)
      | inr more ↦
          let test : eqb x.0 0 ≡ false = grind (arith, nat_tests) in
          let test' : eqb (b - 128 + 128 * x.0) 0 ≡ false = grind (arith, nat_tests) in
          let some : ltb 0 (i + 1) ≡ true = grind (arith, nat_tests) in
          let sum : number + scale * (b - 128 + 128 * x.0) ≡ number + scale * (b - 128) + scale * 128 * x.0 = omega arith in
          let count : i + (x.1 + 1) ≡ i + 1 + x.1 = omega arith in
          grind arith
    ]
joins at number scale i b (Err e) le = refl

pub goes_on : (at number scale i k b : ℕ) (rest : List ℕ) → i + k ≡ 9 → widens i b ≡ false → 128 ≤ b → (i < 9) × (so_far at number scale i (groups_at at k (b ∷ rest)) ≡ so_far at (number + scale * (b - 128)) (scale * 128) (i + 1) (groups_at at (k - 1) rest))
unfolding groups_at
goes_on at number scale i zero b rest e w le = absurd (let h : i ≡ 9 = omega arith in grind (arith, nat_tests))
goes_on at number scale i (suc k) b rest e w le =
    let above : ltb b 128 ≡ false = grind (arith, nat_tests) in
    let less : suc k - 1 ≡ k = omega arith in
    (omega arith, rw (above, less) (joins at number scale i b (groups_at at k rest) le))

-- ---- the sums fit 64 bits

power_fits : (i : ℕ) → i ≤ 8 → 128 ^ i ≤ 2 ^ 56
power_fits i le = pow-le-pow_right {n = 128} (omega arith) le

pub last_fits : (number scale i b : ℕ) → i ≤ 9 → scale ≡ 128 ^ i → number < scale → widens i b ≡ false → b < 128 → number + scale * b < 2 ^ 64
last_fits number scale i b le e below w lt = elim (cases_lt i 9) [
  | inl less ↦ omega (arith, power_fits i (omega arith), mul-le-mul_left scale (let h : b ≤ 127 = omega arith in h))
  | inr nine ↦
      let is : i ≡ 9 = omega arith in
      let scale-is : scale ≡ 128 ^ 9 = e ∙ ap (λ (k : ℕ). 128 ^ k) is in
      let bit : b ≤ 1 = grind (arith, nat_tests) in
      omega (arith, mul-le-mul_left scale bit)
]

pub more_fits : (number scale i b : ℕ) → i < 9 → scale ≡ 128 ^ i → number < scale → b < 128 → (number + scale * b < scale * 128) × (scale * 128 ≤ 2 ^ 63)
more_fits number scale i b le e below low =
    (omega (arith, mul-le-mul_left scale (let h : b ≤ 127 = omega arith in h)), omega (arith, power_fits i (omega arith)))

-- ---- the same in a slice

head : (rest : List ℕ) (i : ℕ) → i < length rest → drop i rest ≡ get_or rest i 0 ∷ drop (i + 1) rest
head rest i lt = rw (add-one, drop-cons rest i 0) refl

at_head : (at number scale i : ℕ) (rest : List ℕ) → i < length rest → so_far at number scale i (groups_at at (9 - i) (get_or rest i 0 ∷ drop (i + 1) rest)) ≡ so_far at number scale i (groups_at at (9 - i) (drop i rest))
at_head at number scale i rest lt = ap (λ (bytes : List ℕ). so_far at number scale i (groups_at at (9 - i) bytes)) (sym (head rest i lt))

pub wide_at : (at number scale i : ℕ) (rest : List ℕ) (total : Result (ℕ × ℕ) AvroError) → i ≤ 9 → i < length rest → widens i (get_or rest i 0) ≡ true
    → so_far at number scale i (groups_at at (9 - i) (drop i rest)) ≡ total → Err (Wide at) ≡ total
wide_at at number scale i rest total le lt w read =
    sym (is_wide at number scale i (9 - i) (get_or rest i 0) (drop (i + 1) rest) (omega arith) w) ∙ at_head at number scale i rest lt ∙ read

pub last_at : (at number scale i b : ℕ) (rest : List ℕ) (total : Result (ℕ × ℕ) AvroError) → i ≤ 9 → i < length rest → b ≡ get_or rest i 0 → widens i (get_or rest i 0) ≡ false → get_or rest i 0 < 128
    → so_far at number scale i (groups_at at (9 - i) (drop i rest)) ≡ total → Ok (number + scale * b, i + 1) ≡ total
last_at at number scale i b rest total le lt is w low read =
    rw is (sym (is_last at number scale i (9 - i) (get_or rest i 0) (drop (i + 1) rest) (omega arith) w low) ∙ at_head at number scale i rest lt ∙ read)

pub more_at : (at number scale i b : ℕ) (rest : List ℕ) (total : Result (ℕ × ℕ) AvroError) → i ≤ 9 → i < length rest → b ≡ get_or rest i 0 - 128 → widens i (get_or rest i 0) ≡ false → 128 ≤ get_or rest i 0
    → so_far at number scale i (groups_at at (9 - i) (drop i rest)) ≡ total
    → (i < 9) × (so_far at (number + scale * b) (scale * 128) (i + 1) (groups_at at (9 - (i + 1)) (drop (i + 1) rest)) ≡ total)
more_at at number scale i b rest total le lt is w high read =
    let g = goes_on at number scale i (9 - i) (get_or rest i 0) (drop (i + 1) rest) (omega arith) w high in
    let less : 9 - (i + 1) ≡ 9 - i - 1 = omega arith in
    (g.0, rw (is, less) (sym g.1 ∙ at_head at number scale i rest lt ∙ read))

pub short_at : (at number scale i : ℕ) (rest : List ℕ) (total : Result (ℕ × ℕ) AvroError) → length rest ≤ i
    → so_far at number scale i (groups_at at (9 - i) (drop i rest)) ≡ total → Err (Short at) ≡ total
unfolding groups_at
short_at at number scale i rest total le read =
    let nothing : drop i rest ≡ [] = drop_of_length-le rest le in
    let short : so_far at number scale i (groups_at at (9 - i) (drop i rest)) ≡ Err (Short at) = rw nothing refl in
    sym short ∙ read
