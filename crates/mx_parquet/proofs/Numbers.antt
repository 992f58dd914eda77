-- How many bytes numbers have.
use Rattle.std.proofs.Common.{◌≡◌, ℕ, zero, suc, ◌+◌, ◌-◌, ◌*◌, ◌/◌, ◌^◌, ◌<◌, ◌≤◌, pos, length, min, refl, sym, ap, ◌∙◌, arith, inl, inr}
use Rattle.std.specs.Int.{w32, w64}
use Rattle.std.proofs.lemmas.Bool.{cases_lt, le-ltb, lt-ltb}
use Rattle.std.proofs.Math.Nat.{pow-suc}
use Rattle.mx_avro.specs.Encoding.{groups, long_encoding}
use Rattle.mx_parquet.specs.Pages.{number}

pub number32-length : (n : ℕ) → length (number w32 n) ≡ 4
unfolding number
number32-length n = refl

pub number64-length : (n : ℕ) → length (number w64 n) ≡ 8
unfolding number
number64-length n = refl

pub groups_small : (k n : ℕ) → n < 128 → length (groups k n) ≡ 1
unfolding groups
groups_small zero n lt = refl
groups_small (suc k) n lt = rw (lt-ltb n 128 lt) refl

pub groups_more : (k n : ℕ) → 128 ≤ n → length (groups (suc k) n) ≡ 1 + length (groups k (n / 128))
unfolding groups
groups_more k n le = rw (le-ltb n 128 le) (omega arith)

-- a number that fills its bytes
groups_full : (k n : ℕ) → 128 ^ k ≤ n → length (groups k n) ≡ 1 + k
unfolding groups
groups_full zero n le = refl
groups_full (suc k) n le =
    let power : 128 ^ (suc k) ≡ 128 ^ k * 128 = pow-suc 128 k in
    let one : 1 ≤ 128 ^ k = power_some k in
    let less : 128 ^ k ≤ n / 128 = omega (arith, power) in
    omega (arith, groups_more k n (omega (arith, power, one)), groups_full k (n / 128) less)
  where
    power_some : (k : ℕ) → 1 ≤ 128 ^ k
    power_some zero = omega arith
    power_some (suc k) = omega (arith, power_some k, pow-suc 128 k)

-- numbers from 2^64 on have as many bytes as the one before
pub groups-cap : (n : ℕ) → length (groups 9 (min n (2 ^ 64 - 1))) ≡ length (groups 9 n)
groups-cap n = elim (cases_lt n (2 ^ 64)) [
  | inl lt ↦ let same : min n (2 ^ 64 - 1) ≡ n = omega arith in ap (λ (k : ℕ). length (groups 9 k)) same
  | inr le ↦ groups_full 9 (min n (2 ^ 64 - 1)) (omega arith) ∙ sym (groups_full 9 n (omega arith))
]

pub long-groups : (n : ℕ) → long_encoding (pos n) ≡ groups 9 (2 * n)
unfolding long_encoding
long-groups n = refl

pub long-cap : (n : ℕ) → length (long_encoding (pos (min n (2 ^ 64 - 1)))) ≡ length (long_encoding (pos n))
long-cap n = elim (cases_lt n (2 ^ 64)) [
  | inl lt ↦ let same : min n (2 ^ 64 - 1) ≡ n = omega arith in ap (λ (k : ℕ). length (long_encoding (pos k))) same
  | inr le ↦
      ap length (long-groups (min n (2 ^ 64 - 1))) ∙ groups_full 9 (2 * min n (2 ^ 64 - 1)) (omega arith) ∙ sym (groups_full 9 (2 * n) (omega arith))
      ∙ sym (ap length (long-groups n))
]

pub long_small : (n : ℕ) → n < 64 → length (long_encoding (pos n)) ≡ 1
long_small n lt = ap length (long-groups n) ∙ groups_small 9 (2 * n) (omega arith)

-- ---- as a loop counts them

pub groups_step : (len rest total : ℕ) → 1 ≤ len → 128 ≤ rest → rest < 2 * 128 ^ (10 - len) → len - 1 + length (groups (10 - len) rest) ≡ total
    → (len < 10) × (len + length (groups (10 - (len + 1)) (rest / 128)) ≡ total) × (rest / 128 < 2 * 128 ^ (10 - (len + 1)))
groups_step len rest total some le fits so_far =
    elim (cases_lt len 10) [
      | inl lt ↦
          let k : 10 - len ≡ suc (10 - (len + 1)) = omega arith in
          let power : 128 ^ (10 - len) ≡ 128 ^ (10 - (len + 1)) * 128 = rw k (pow-suc 128 (10 - (len + 1))) in
          let more : length (groups (10 - len) rest) ≡ 1 + length (groups (10 - (len + 1)) (rest / 128)) = rw k (groups_more (10 - (len + 1)) rest le) in
          (lt, omega (arith, more, so_far), omega (arith, power, fits))
      | inr ge ↦
          let k : 10 - len ≡ 0 = omega arith in
          let small : rest < 2 * 128 ^ 0 = rw k at fits in
          absurd (omega (arith, small))
    ]
