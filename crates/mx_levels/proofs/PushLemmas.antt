-- Levels are pushed as long as fewer than are wanted are there.
use Rattle.std.proofs.Common.{◌≡◌, ℕ, suc, ◌+◌, ◌-◌, ◌/◌, ◌%◌, ◌<◌, ◌≤◌, Bool, eqb, List, [], ◌∷◌, ◌++◌, length, take, append_assoc, refl, sym, ap, ◌∙◌, arith}
use Rattle.std.proofs.lemmas.List.{take_all, append-nil}
use Rattle.mx_levels.specs.Encoding.{bits}

pub bits_more : (left n : ℕ) → bits (suc left) n ≡ eqb (n % 2) 1 ∷ bits left (n / 2)
unfolding bits
bits_more left n = refl

pub pushed_bit : (i n count : ℕ) (levels total : List Bool) (bit : Bool) → i < 8 → bit ≡ eqb (n % 2) 1
    → take count (levels ++ bits (8 - i) n) ≡ total → take count ((levels ++ bit ∷ []) ++ bits (8 - (i + 1)) (n / 2)) ≡ total
pushed_bit i n count levels total bit lt is so_far =
    let k : 8 - i ≡ suc (8 - (i + 1)) = omega arith in
    let all : bits (8 - i) n ≡ bit ∷ bits (8 - (i + 1)) (n / 2) = ap (λ (j : ℕ). bits j n) k ∙ bits_more (8 - (i + 1)) n ∙ ap (λ (b : Bool). b ∷ bits (8 - (i + 1)) (n / 2)) (sym is) in
    ap (take count) (append_assoc levels (bit ∷ []) (bits (8 - (i + 1)) (n / 2)) ∙ ap (λ (r : List Bool). levels ++ r) (sym all)) ∙ so_far

pub no_bits : (i n count : ℕ) (levels total : List Bool) → 8 ≤ i → length levels ≤ count → take count (levels ++ bits (8 - i) n) ≡ total → levels ≡ total
unfolding bits
no_bits i n count levels total ge le so_far =
    let none : 8 - i ≡ 0 = omega arith in
    let nothing : levels ++ bits (8 - i) n ≡ levels = ap (λ (j : ℕ). levels ++ bits j n) none ∙ append-nil levels in
    sym (take_all count levels le) ∙ ap (take count) (sym nothing) ∙ so_far
