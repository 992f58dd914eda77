-- The parts of a page.
use Rattle.std.proofs.Common.{◌≡◌, ℕ, zero, suc, ◌+◌, ◌-◌, ◌*◌, ◌^◌, ◌<◌, ◌≤◌, Bool, true, false, cond, List, [], ◌∷◌, ◌++◌, length, take, drop, map, min, append-nil, append_assoc, length-append, refl, sym, ap, ◌∙◌, arith, inl, inr, Option, Some, None, option_map}
use Rattle.std.specs.Int.{w32, div_ceil}
use Rattle.std.proofs.Math.Nat.{pow-suc}
use Rattle.std.specs.List.{slice_get, prefix_len}
use Rattle.std.specs.Bool.{beq}
use Rattle.std.proofs.lemmas.Bool.{cases_lt}
use Rattle.std.proofs.lemmas.List.{take_all, nil_from_length, drop-map, length-drop}
use Rattle.mx_avro.specs.Encoding.{groups}
use Rattle.mx_levels.specs.Encoding.{Repeated, run_bytes, written}
use Rattle.mx_levels.proofs.WrittenLemmas.{written_run}
use Rattle.mx_schema.specs.declared.cell.Cell.{Cell}
use Rattle.mx_parquet.specs.declared.row.FullRow.{FullRow}
use Rattle.mx_parquet.specs.Columns.{cell_at, cells_at}
use Rattle.mx_parquet.specs.Pages.{number, is_present, levels, level_bytes, bit_sum, bytes_of_bits, packed}
use Rattle.mx_parquet.proofs.Numbers.{number32-length}

-- ---- bits

pub bit_sum-small : (n : ℕ) (bits : List Bool) → length bits ≤ n → bit_sum bits < 2 ^ n
bit_sum-small zero [] le = omega arith
bit_sum-small zero (b ∷ bits) le = absurd (omega arith)
bit_sum-small (suc n) [] le = omega (arith, bit_sum-small n [] (omega arith), pow-suc 2 n)
bit_sum-small (suc n) (true ∷ bits) le = omega (arith, bit_sum-small n bits (omega arith), pow-suc 2 n)
bit_sum-small (suc n) (false ∷ bits) le = omega (arith, bit_sum-small n bits (omega arith), pow-suc 2 n)

pub bytes_of_bits-length : (count : ℕ) (bits : List Bool) → length (bytes_of_bits count bits) ≡ count
unfolding bytes_of_bits
bytes_of_bits-length zero bits = refl
bytes_of_bits-length (suc count) bits = ap suc (bytes_of_bits-length count (drop 8 bits))

drop_end : {A : Type 0} (xs : List A) (n : ℕ) → length xs ≤ n → drop n xs ≡ []
drop_end xs n le = nil_from_length (drop n xs) (omega (arith, length-drop n xs))

bytes_of_bits-more : (count : ℕ) (bits : List Bool) → bytes_of_bits (suc count) bits ≡ bit_sum (take 8 bits) ∷ bytes_of_bits count (drop 8 bits)
unfolding bytes_of_bits
bytes_of_bits-more count bits = refl

short : {A B : Type 0} (f : ℕ → List A → B) (n : ℕ) (xs : List A) → length xs ≤ n → f (length xs) xs ≡ f n xs → f (min (length xs) n) xs ≡ f n xs
short f n xs le same = let k : min (length xs) n ≡ length xs = omega arith in ap (λ (k : ℕ). f k xs) k ∙ same

long : {A B : Type 0} (f : ℕ → List A → B) (n : ℕ) (xs : List A) → n ≤ length xs → f (min (length xs) n) xs ≡ f n xs
long f n xs le = let k : min (length xs) n ≡ n = omega arith in ap (λ (k : ℕ). f k xs) k

drop_short : {A : Type 0} (n : ℕ) (xs : List A) → drop (min (length xs) n) xs ≡ drop n xs
drop_short n xs = elim (cases_lt (length xs) n) [
  | inl lt ↦ short drop n xs (omega arith) (drop_end xs (length xs) (omega arith) ∙ sym (drop_end xs n (omega arith)))
  | inr le ↦ long drop n xs le
]

take_short : {A : Type 0} (n : ℕ) (xs : List A) → take (min (length xs) n) xs ≡ take n xs
take_short n xs = elim (cases_lt (length xs) n) [
  | inl lt ↦ short take n xs (omega arith) (take_all (length xs) xs (omega arith) ∙ sym (take_all n xs (omega arith)))
  | inr le ↦ long take n xs le
]

pub packed-more : (bits : List Bool) → 0 < length bits → packed bits ≡ bit_sum (take (min (length bits) 8) bits) ∷ packed (drop (min (length bits) 8) bits)
packed-more bits some =
    let fewer : length (drop 8 bits) ≡ length bits - 8 = length-drop 8 bits in
    let count : div_ceil (length bits) 8 ≡ suc (div_ceil (length (drop 8 bits)) 8) = omega (arith, fewer) in
    ap (λ (k : ℕ). bytes_of_bits k bits) count ∙ bytes_of_bits-more (div_ceil (length (drop 8 bits)) 8) bits
    ∙ ap (λ (g : List Bool). bit_sum g ∷ packed (drop 8 bits)) (sym (take_short 8 bits))
    ∙ ap (λ (g : List Bool). bit_sum (take (min (length bits) 8) bits) ∷ packed g) (sym (drop_short 8 bits))

pub packed_step : (bits group behind : List Bool) (byte : ℕ) (out put total : List ℕ) → 0 < length bits → group ≡ take (min (length bits) 8) bits → behind ≡ drop (min (length bits) 8) bits
    → byte ≡ bit_sum group → put ≡ out ++ byte ∷ [] → out ++ packed bits ≡ total → put ++ packed behind ≡ total
packed_step bits group behind byte out put total some front back is now so_far =
    ap (λ (p : List ℕ). p ++ packed behind) now ∙ append_assoc out (byte ∷ []) (packed behind)
    ∙ ap (λ (b : ℕ). out ++ (b ∷ packed behind)) (is ∙ ap bit_sum front)
    ∙ ap (λ (r : List Bool). out ++ (bit_sum (take (min (length bits) 8) bits) ∷ packed r)) back
    ∙ ap (λ (r : List ℕ). out ++ r) (sym (packed-more bits some)) ∙ so_far

packed-nil : packed [] ≡ []
unfolding bytes_of_bits
packed-nil = refl

pub packed_all : (bits : List Bool) (out total : List ℕ) → length bits ≡ 0 → out ++ packed bits ≡ total → out ≡ total
packed_all [] out total none so_far = sym (append-nil out) ∙ ap (λ (r : List ℕ). out ++ r) (sym packed-nil) ∙ so_far
packed_all (b ∷ bits) out total none so_far = absurd (omega arith)

-- ---- levels

pub level_bytes-length : (cells : List Cell) → length (level_bytes true cells) ≡ 4 + length (levels cells)
level_bytes-length cells = omega (arith, length-append (number w32 (length (levels cells))) (levels cells), number32-length (length (levels cells)))

prefix_len-map : {A B : Type 0} (p : B → Bool) (f : A → B) (xs : List A) → prefix_len p (map f xs) ≡ prefix_len (λ x. p (f x)) xs
prefix_len-map p f [] = refl
prefix_len-map p f (x ∷ xs) = ap (λ (k : ℕ). cond (p (f x)) (1 + k) 0) (prefix_len-map p f xs)

first-map : {A B : Type 0} (f : A → B) (xs : List A) (x : A) → Some x ≡ slice_get xs 0 → Some (f x) ≡ slice_get (map f xs) 0
first-map f [] x e = absurd cc
first-map f (y ∷ xs) x e = ap (λ (o : Option _). option_map f o) e

abbrev pub presence : ℕ → List FullRow → List Bool
presence place rows = map is_present (cells_at place rows)

presence-is : (place : ℕ) (rows : List FullRow) → presence place rows ≡ map (λ row. is_present (cell_at place row)) rows
presence-is place [] = refl
presence-is place (row ∷ rows) = ap (λ (r : List Bool). is_present (cell_at place row) ∷ r) (presence-is place rows)

-- the run in front
pub levels_step : (place count : ℕ) (level : Bool) (row : FullRow) (rest behind : List FullRow) → Some row ≡ slice_get rest 0 → level ≡ is_present (cell_at place row)
    → count ≡ prefix_len (λ r. beq level (is_present (cell_at place r))) rest → behind ≡ drop count rest
    → (0 < count) × (length (levels (cells_at place rest)) ≡ length (groups 9 (2 * count)) + 1 + length (levels (cells_at place behind)))
levels_step place count level row rest behind first is run back =
    let f = λ (r : FullRow). is_present (cell_at place r) in
    let front : Some level ≡ slice_get (presence place rest) 0 = ap Some is ∙ first-map f rest row first ∙ ap (λ (l : List Bool). slice_get l 0) (sym (presence-is place rest)) in
    let r = written_run (presence place rest) level front in
    let k : prefix_len (beq level) (presence place rest) ≡ count = ap (prefix_len (beq level)) (presence-is place rest) ∙ prefix_len-map (beq level) f rest ∙ sym run in
    let after : drop (prefix_len (beq level) (presence place rest)) (presence place rest) ≡ presence place behind =
    ap (λ (n : ℕ). drop n (presence place rest)) k ∙ ap (drop count) (presence-is place rest) ∙ drop-map f count rest ∙ ap (map f) (sym back) ∙ sym (presence-is place behind) in
    let bytes : written (presence place rest) ≡ run_bytes (Repeated count level) ++ written (presence place behind) =
    r.1 ∙ ap (λ (n : ℕ). run_bytes (Repeated n level) ++ written (drop (prefix_len (beq level) (presence place rest)) (presence place rest))) k
    ∙ ap (λ (l : List Bool). run_bytes (Repeated count level) ++ written l) after in (
      omega (arith, k, r.0),
      omega (arith, ap length bytes, length-append (run_bytes (Repeated count level)) (written (presence place behind)), length-append (groups 9 (2 * count)) (cond level 1 0 ∷ [])),
    )

pub levels_all : (place : ℕ) (rest : List FullRow) → None ≡ slice_get rest 0 → length (levels (cells_at place rest)) ≡ 0
levels_all place [] none = refl
levels_all place (r ∷ rest) none = absurd cc
