-- What is written is read again.
use Rattle.std.proofs.Common.{◌≡◌, ℕ, zero, suc, ◌+◌, ◌-◌, ◌*◌, ◌/◌, ◌%◌, ◌^◌, ◌<◌, ◌≤◌, Bool, true, false, eqb, cond, List, [], ◌∷◌, ◌++◌, length, take, drop, map, flat_map, replicate, append-nil, append_assoc, length-append, refl, ap, subst, ◌∙◌, arith, inl, inr}
use Rattle.std.specs.Int.{w32, div_ceil}
use Rattle.std.specs.List.{AllByRecursion}
use Rattle.std.proofs.lemmas.Bool.{cases_lt}
use Rattle.std.proofs.lemmas.List.{take_all, take-append-drop, length-take, length-drop, length-map}
use Rattle.std.proofs.lemmas.List.Concat.{flat_map-cons}
use Rattle.std.proofs.Math.Seq.{take-append_seam}
use Rattle.mx_schema.specs.declared.cell.Cell.{Cell}
use Rattle.mx_schema.specs.declared.column.ColumnKind.{ColumnKind}
use Rattle.mx_schema.specs.declared.column.ColumnKind.TheVariants as kinds
use Rattle.mx_levels.specs.Encoding.{bits}
use Rattle.mx_levels.specs.Decoding as levels_read
use Rattle.mx_levels.proofs.WrittenLemmas.{written_decodes}
use Rattle.mx_parquet.specs.Columns.{FilledColumn}
use Rattle.mx_parquet.specs.Pages.{number, is_present, levels, level_bytes, truths, bit_sum, bytes_of_bits, packed, value_bytes, page}
use Rattle.mx_parquet.specs.Decoding.{AreLevels, AreBits, AreValues, IsHeldBy, IsPageOf}
use Rattle.mx_parquet.proofs.Pages.{bytes_of_bits-length}

-- ---- bits

bits-more : (n m : ℕ) → bits (suc n) m ≡ eqb (m % 2) 1 ∷ bits n (m / 2)
unfolding bits
bits-more n m = refl

low : (b : Bool) (n : ℕ) → eqb ((cond b 1 0 + 2 * n) % 2) 1 ≡ b
low true n = let odd : (1 + 2 * n) % 2 ≡ 1 = omega arith in ap (λ (k : ℕ). eqb k 1) odd
low false n = let even : (0 + 2 * n) % 2 ≡ 0 = omega arith in ap (λ (k : ℕ). eqb k 1) even

high : (b : Bool) (n : ℕ) → (cond b 1 0 + 2 * n) / 2 ≡ n
high true n = omega arith
high false n = omega arith

bits-zero : (n : ℕ) → bits n 0 ≡ replicate n false
unfolding bits
bits-zero zero = refl
bits-zero (suc n) = ap (λ (r : List Bool). false ∷ r) (bits-zero n)

bits-sum : (n : ℕ) (g : List Bool) → length g ≤ n → bits n (bit_sum g) ≡ g ++ replicate (n - length g) false
bits-sum n [] le = let k : n ≡ n - 0 = omega arith in bits-zero n ∙ ap (λ (k : ℕ). replicate k false) k
bits-sum zero (b ∷ g) le = absurd (omega arith)
bits-sum (suc n) (b ∷ g) le =
    let k : n - length g ≡ suc n - suc (length g) = omega arith in
    bits-more n (bit_sum (b ∷ g)) ∙ ap (λ (x : Bool). x ∷ bits n (bit_sum (b ∷ g) / 2)) (low b (bit_sum g)) ∙ ap (λ (m : ℕ). b ∷ bits n m) (high b (bit_sum g))
    ∙ ap (λ (r : List Bool). b ∷ r) (bits-sum n g (omega arith) ∙ ap (λ (j : ℕ). g ++ replicate j false) k)

bytes_of_bits-again : (count : ℕ) (bs : List Bool) → length bs ≤ 8 * count → take (length bs) (flat_map (bits 8) (bytes_of_bits count bs)) ≡ bs
unfolding bytes_of_bits
bytes_of_bits-again zero [] le = refl
bytes_of_bits-again zero (b ∷ bs) le = absurd (omega arith)
bytes_of_bits-again (suc count) bs le =
    let first = take 8 bs in
    let rest = flat_map (bits 8) (bytes_of_bits count (drop 8 bs)) in
    let short : length first ≤ 8 = omega (arith, length-take 8 bs) in
    let front : flat_map (bits 8) (bytes_of_bits (suc count) bs) ≡ (first ++ replicate (8 - length first) false) ++ rest =
    flat_map-cons (bits 8) (bit_sum first) (bytes_of_bits count (drop 8 bs)) ∙ ap (λ (x : List Bool). x ++ rest) (bits-sum 8 first short) in
    elim (cases_lt (length bs) 8) [
      | inl lt ↦
          let whole : first ≡ bs = take_all 8 bs (omega arith) in
          ap (take (length bs)) (front ∙ append_assoc first (replicate (8 - length first) false) rest ∙ ap (λ (x : List Bool). x ++ (replicate (8 - length first) false ++ rest)) whole)
          ∙ take-append_seam bs (replicate (8 - length first) false ++ rest)
      | inr ge ↦
          let eight : length first ≡ 8 = omega (arith, length-take 8 bs) in
          let none : replicate (8 - length first) false ≡ [] = ap (λ (k : ℕ). replicate (8 - k) false) eight in
          let len : length bs ≡ 8 + length (drop 8 bs) = omega (arith, length-drop 8 bs) in
          ap (take (length bs)) (front ∙ ap (λ (x : List Bool). (first ++ x) ++ rest) none ∙ ap (λ (x : List Bool). x ++ rest) (append-nil first))
          ∙ take_past first rest (length bs) (length (drop 8 bs)) (omega (arith, eight, len))
          ∙ ap (λ (x : List Bool). first ++ x) (bytes_of_bits-again count (drop 8 bs) (omega (arith, length-drop 8 bs)))
          ∙ take-append-drop 8 bs
    ]
  where
    take_past : (a b : List Bool) (n m : ℕ) → n ≡ length a + m → take n (a ++ b) ≡ a ++ take m b
    take_past [] b n m e = let k : n ≡ m = omega (arith, e) in ap (λ (k : ℕ). take k b) k
    take_past (x ∷ a) b zero m e = absurd (omega (arith, e))
    take_past (x ∷ a) b (suc n) m e = ap (λ (r : List Bool). x ∷ r) (take_past a b n m (omega (arith, e)))

packed_again : (flags : List Bool) → AreBits (packed flags) flags
packed_again flags = (bytes_of_bits-length (div_ceil (length flags) 8) flags, bytes_of_bits-again (div_ceil (length flags) 8) flags (omega arith))

-- ---- pages

values_again : (kind : ColumnKind) (held : List Cell) → AreValues kind (value_bytes kind held) held
values_again kinds.Boolean held = packed_again (flat_map truths held)
values_again kinds.Int32 held = refl
values_again kinds.Int64 held = refl
values_again kinds.Text held = refl

levels_again : (nullable : Bool) (held : List Cell) → length (level_bytes nullable held) < 2 ^ 32 → length held < 2 ^ 63 → AreLevels nullable (level_bytes nullable held) held
levels_again false held short few = refl
levels_again true held short few =
    let len : length (map is_present held) ≡ length held = length-map held is_present in (
      levels held,
      omega (arith, length-append (number w32 (length (levels held))) (levels held), short),
      refl,
      subst (λ (n : ℕ). levels_read.Decodes (levels held) n (map is_present held)) len (written_decodes (map is_present held) (omega (arith, len))),
    )

pub page_again : (filled : FilledColumn) → AllByRecursion (IsHeldBy filled.column) filled.cells → length (page filled) < 2 ^ 32 → length filled.cells < 2 ^ 63 → IsPageOf filled.column (page filled) filled.cells
page_again filled held short few =
    let front = level_bytes filled.column.nullable filled.cells in
    let rest = value_bytes filled.column.kind filled.cells in
    record {
      front = front;
      rest = rest;
      parts = refl;
      levelled = levels_again filled.column.nullable filled.cells (omega (arith, length-append front rest, short)) few;
      valued = values_again filled.column.kind filled.cells;
      each = held;
    }
