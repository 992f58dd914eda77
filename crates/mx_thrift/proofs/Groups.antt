-- Numbers read in turns are those that are read at once.
use Rattle.std.proofs.Common.{◌≡◌, ℕ, suc, ◌+◌, ◌-◌, ◌*◌, ◌%◌, ◌^◌, ◌<◌, ◌≤◌, true, false, ltb, List, [], ◌∷◌, length, get_or, drop, add-one, drop-cons, Ok, Err, refl, sym, ap, ◌∙◌, arith}
use Rattle.std.proofs.lemmas.Bool.{le-ltb, lt-ltb}
use Rattle.std.proofs.Math.ListN.{drop_of_length-le}
use Rattle.std.proofs.Math.Nat.{pow-le-pow_right, mul-le-mul_left}
use Rattle.mx_thrift.specs.declared.error.Rule.TheVariants as rules
use Rattle.mx_thrift.specs.Decoding.{◌>>=◌, Read, joined, groups_in}

-- the number of some bytes, with what is read of the bytes behind them
abbrev pub so_far : ℕ → ℕ → Read (ℕ × List ℕ) → Read (ℕ × List ℕ)
so_far number scale read = read >>= λ high. Ok (number + scale * high.0, high.1)

pub nothing_so_far : (r : Read (ℕ × List ℕ)) → so_far 0 1 r ≡ r
nothing_so_far (Ok x) = let one : 0 + 1 * x.0 ≡ x.0 = omega arith in rw one refl
nothing_so_far (Err e) = refl

head : (bytes : List ℕ) (i : ℕ) → i < length bytes → drop i bytes ≡ get_or bytes i 0 ∷ drop (i + 1) bytes
head bytes i lt = rw (add-one, drop-cons bytes i 0) refl

pub cut : (left number scale i : ℕ) (bytes : List ℕ) (total : Read (ℕ × List ℕ)) → i ≤ 9 → length bytes ≤ i → so_far number scale (groups_in left (10 - i) (drop i bytes)) ≡ total → total ≡ Err (rules.Short, left)
unfolding groups_in
cut left number scale i bytes total lt le e =
    let k : 10 - i ≡ suc (10 - (i + 1)) = omega arith in
    let none : drop i bytes ≡ [] = drop_of_length-le bytes le in
    sym e ∙ rw (k, none) refl

pub wide : (left number scale i : ℕ) (bytes : List ℕ) (total : Read (ℕ × List ℕ)) → i ≡ 9 → i < length bytes → 128 ≤ get_or bytes i 0 → so_far number scale (groups_in left (10 - i) (drop i bytes)) ≡ total → total ≡ Err (rules.Wide, left)
unfolding groups_in
wide left number scale i bytes total nine lt high e =
    let k : 10 - i ≡ 1 = omega arith in
    let front = head bytes i lt in
    let test : ltb (get_or bytes i 0) 128 ≡ false = le-ltb _ _ high in
    sym e ∙ rw (k, front, test) refl

pub ends : (left number scale i b : ℕ) (bytes : List ℕ) (total : Read (ℕ × List ℕ)) → i ≤ 9 → i < length bytes → get_or bytes i 0 < 128 → b ≡ get_or bytes i 0 % 128
    → so_far number scale (groups_in left (10 - i) (drop i bytes)) ≡ total → total ≡ Ok (number + scale * b, drop (i + 1) bytes)
unfolding groups_in
ends left number scale i b bytes total le lt low is e =
    let k : 10 - i ≡ suc (10 - (i + 1)) = omega arith in
    let front = head bytes i lt in
    let test : ltb (get_or bytes i 0) 128 ≡ true = lt-ltb _ _ low in
    let same : b ≡ get_or bytes i 0 = omega arith in
    sym e ∙ rw (k, front, test, same) refl

joins : (number scale b : ℕ) (r : Read (ℕ × List ℕ)) → so_far number scale (r >>= λ high. Ok (joined b high)) ≡ so_far (number + scale * (b % 128)) (scale * 128) r
joins number scale b (Ok x) = let sum : number + scale * (b % 128 + 128 * x.0) ≡ number + scale * (b % 128) + scale * 128 * x.0 = omega arith in rw sum refl
joins number scale b (Err e) = refl

pub goes_on : (left number scale i b : ℕ) (bytes : List ℕ) (total : Read (ℕ × List ℕ)) → i ≤ 9 → i < length bytes → 128 ≤ get_or bytes i 0 → b ≡ get_or bytes i 0 % 128
    → so_far number scale (groups_in left (10 - i) (drop i bytes)) ≡ total → so_far (number + scale * b) (scale * 128) (groups_in left (10 - (i + 1)) (drop (i + 1) bytes)) ≡ total
unfolding groups_in
goes_on left number scale i b bytes total le lt high is e =
    let k : 10 - i ≡ suc (10 - (i + 1)) = omega arith in
    let front = head bytes i lt in
    let test : ltb (get_or bytes i 0) 128 ≡ false = le-ltb _ _ high in
    let one : so_far number scale (groups_in left (10 - i) (drop i bytes)) ≡ so_far (number + scale * (get_or bytes i 0 % 128)) (scale * 128) (groups_in left (10 - (i + 1)) (drop (i + 1) bytes)) =
    rw (k, front, test) (joins number scale (get_or bytes i 0) (groups_in left (10 - (i + 1)) (drop (i + 1) bytes))) in
    ap (λ (n : ℕ). so_far (number + scale * n) (scale * 128) (groups_in left (10 - (i + 1)) (drop (i + 1) bytes))) is ∙ sym one ∙ e

-- the sums fit 70 bits
pub fits : (number scale i b : ℕ) → i ≤ 9 → scale ≡ 128 ^ i → number < scale → b < 128 → (number + scale * b < scale * 128) × (scale * 128 ≤ 2 ^ 70)
fits number scale i b le e below low =
    let power : 128 ^ i ≤ 128 ^ 9 = pow-le-pow_right {n = 128} (omega arith) le in
    (omega (arith, mul-le-mul_left scale (let h : b ≤ 127 = omega arith in h)), omega arith)
