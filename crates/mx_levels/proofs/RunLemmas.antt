-- The bytes of a run tell the run.
use Rattle.std.proofs.Common.{◌≡◌, ℕ, ◌+◌, ◌*◌, ◌^◌, ◌<◌, Bool, true, false, cond, add-zero, List, [], ◌∷◌, ◌++◌, length, take, drop, append_assoc, length-append, Option, Some, None, refl, sym, ap, ◌∙◌, arith, ℤ, pos, negsuc}
use Rattle.std.proofs.lemmas.Int.{ints}
use Rattle.std.proofs.Math.Seq.{drop-append_seam, take-append_seam}
use Rattle.std.specs.Int.RustNames.{FitsSigned}
use Rattle.std.specs.Int.{w64}
use Rattle.mx_avro.specs.Encoding.{zigzag, long_encoding}
use Rattle.mx_avro.proofs.Groups.{groups_some}
use Rattle.mx_avro.proofs.Longs.{long_encoding_first}
use Rattle.mx_levels.specs.Encoding.{Run, Repeated, Packed, header, body, varint, run_bytes}
use Rattle.mx_levels.specs.Decoding.{Fits, HoldsBody, HoldsRun}

-- the long that a header is
abbrev pub number : Run → ℤ
number (Repeated count level) = pos count
number (Packed bytes) = negsuc (length bytes)

zigzag_is : (run : Run) → zigzag (number run) ≡ header run
zigzag_is (Repeated count level) = refl
zigzag_is (Packed bytes) = refl

number_fits : (run : Run) → header run < 2 ^ 64 → FitsSigned w64 (number run)
number_fits (Repeated count level) lt = omega (arith, ints)
number_fits (Packed bytes) lt = omega (arith, ints)

-- a header is a long
pub varint-zigzag : (n : ℤ) → varint (zigzag n) ≡ long_encoding n
unfolding long_encoding
varint-zigzag n = refl

spelled : (run : Run) (behind : List ℕ) → run_bytes run ++ behind ≡ long_encoding (number run) ++ (body run ++ behind)
spelled run behind =
    let long : varint (header run) ≡ long_encoding (number run) = ap varint (sym (zigzag_is run)) ∙ varint-zigzag (number run) in
    append_assoc (varint (header run)) (body run) behind ∙ ap (λ (b : List ℕ). b ++ (body run ++ behind)) long

same_run : (a b : Run) (x y : List ℕ) → number a ≡ number b → body a ++ x ≡ body b ++ y → (a ≡ b) × (x ≡ y)
same_run (Repeated m true) (Repeated n true) x y e h = (cc, cc)
same_run (Repeated m false) (Repeated n false) x y e h = (cc, cc)
same_run (Repeated m true) (Repeated n false) x y e h = absurd cc
same_run (Repeated m false) (Repeated n true) x y e h = absurd cc
same_run (Packed a) (Packed b) x y e h =
    let len : length a ≡ length b = cc in
    let same : a ≡ b = sym (take-append_seam a x) ∙ ap (λ (n : ℕ). take n (a ++ x)) len ∙ ap (take (length b)) h ∙ take-append_seam b y in (
      ap Packed same,
      sym (drop-append_seam a x) ∙ ap (λ (n : ℕ). drop n (a ++ x)) len ∙ ap (drop (length b)) h ∙ drop-append_seam b y,
    )
same_run (Repeated m k) (Packed b) x y e h = absurd cc
same_run (Packed a) (Repeated n l) x y e h = absurd cc

-- no run's bytes begin those of another
pub run_bytes-first : (a b : Run) (x y : List ℕ) → header a < 2 ^ 64 → header b < 2 ^ 64 → run_bytes a ++ x ≡ run_bytes b ++ y → (a ≡ b) × (x ≡ y)
run_bytes-first a b x y lt lt' e =
    let both = long_encoding_first (number a) (number b) (body a ++ x) (body b ++ y) (number_fits a lt) (number_fits b lt') (sym (spelled a x) ∙ e ∙ spelled b y) in
    same_run a b x y both.0 both.1

pub run_bytes-some : (run : Run) → 0 < length (run_bytes run)
run_bytes-some run = omega (arith, length-append (varint (header run)) (body run), groups_some 9 (header run))

below : (n : ℤ) → FitsSigned w64 n → zigzag n < 2 ^ 64
below (pos n) fits = omega (arith, ints)
below (negsuc n) fits = omega (arith, ints)

-- a header and what was found behind it
pub holds_run : (bytes rest : List ℕ) (n : ℤ) (left h : ℕ) (found : Option (Run × List ℕ)) → FitsSigned w64 n → bytes ≡ long_encoding n ++ rest → zigzag n ≡ h
    → HoldsBody h left rest found → HoldsRun left bytes found
holds_run bytes rest n left h (Some x) fits e is found =
    let head : header x.0 ≡ zigzag n = found.0 ∙ sym is in
    let long : long_encoding n ≡ varint (header x.0) = sym (varint-zigzag n) ∙ ap varint (sym head) in (
      record { some = found.1; within = found.2; below = omega (arith, below n fits) },
      e ∙ ap (λ (r : List ℕ). long_encoding n ++ r) found.3 ∙ ap (λ (b : List ℕ). b ++ (body x.0 ++ x.1)) long ∙ sym (append_assoc (varint (header x.0)) (body x.0) x.1),
    )
holds_run bytes rest n left h None fits e is none =
    λ run behind fit parts.
    let both = long_encoding_first (number run) n (body run ++ behind) rest (number_fits run fit.below) fits (sym (spelled run behind) ∙ sym parts ∙ e) in
    none run behind (sym (zigzag_is run) ∙ ap zigzag both.0 ∙ is) fit (sym both.1)

-- where a run that fits stands in front, a long does
pub begins_long : (left : ℕ) (bytes : List ℕ) (run : Run) (behind : List ℕ) → Fits left run → bytes ≡ run_bytes run ++ behind
    → FitsSigned w64 (number run) × (bytes ≡ long_encoding (number run) ++ (body run ++ behind))
begins_long left bytes run behind fit parts = (number_fits run fit.below, parts ∙ spelled run behind)

pub packed_header : (n : ℤ) (count : ℕ) (packed : Bool) → zigzag n ≡ 2 * count + cond packed 1 0 → packed ≡ true → zigzag n ≡ 2 * count + 1
packed_header n count packed e is = e ∙ ap (λ (b : Bool). 2 * count + cond b 1 0) is

pub repeated_header : (n : ℤ) (count : ℕ) (packed : Bool) → zigzag n ≡ 2 * count + cond packed 1 0 → packed ≡ false → zigzag n ≡ 2 * count
repeated_header n count packed e is = e ∙ ap (λ (b : Bool). 2 * count + cond b 1 0) is ∙ add-zero (2 * count)

-- a repeated level is put as its header and its byte
pub put_repeated : (old put all : List ℕ) (count byte : ℕ) (n : ℤ) (level : Bool) → put ≡ old ++ long_encoding n → n ≡ pos count → byte ≡ cond level 1 0 → all ≡ put ++ byte ∷ []
    → all ≡ old ++ run_bytes (Repeated count level)
put_repeated old put all count byte n level head is last end =
    let long : long_encoding n ≡ varint (2 * count) = ap long_encoding is ∙ sym (varint-zigzag (pos count)) in
    end ∙ ap (λ (l : List ℕ). l ++ byte ∷ []) (head ∙ ap (λ (l : List ℕ). old ++ l) long) ∙ append_assoc old (varint (2 * count)) (byte ∷ [])
    ∙ ap (λ (b : ℕ). old ++ (varint (2 * count) ++ b ∷ [])) last
