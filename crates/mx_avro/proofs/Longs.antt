-- A number that was written is read again, whatever follows, and what is read as a number was written as it.
use Rattle.std.proofs.Common.{◌≡◌, ℕ, ◌+◌, ◌-◌, ◌*◌, ◌/◌, ◌%◌, ◌^◌, ◌<◌, ◌≤◌, true, false, eqb, ltb, List, ◌++◌, length, take, drop, append_assoc, drop-drop, length-append, length-drop, length-take, take-append-drop, Result, Ok, Err, refl, sym, ap, subst, ◌∙◌, arith, inl, inr, ◌⊎◌, ℤ, pos, negsuc}
use Rattle.std.proofs.lemmas.Bool.{ltb-false, le-ltb, cases_eq}
use Rattle.std.proofs.lemmas.Bool.Decides.{nat_tests}
use Rattle.std.proofs.lemmas.Int.{ints}
use Rattle.std.proofs.lemmas.List.{get_or-drop}
use Rattle.std.proofs.Math.Seq.{drop-append_seam, take-append_seam}
use Rattle.std.specs.Int.RustNames.{FitsSigned}
use Rattle.std.specs.Int.{w64}
use Rattle.std.specs.Prelude.{IfOk, IfErr}
use Rattle.mx_avro.specs.declared.error.AvroError.{AvroError}
use Rattle.mx_avro.specs.declared.error.AvroError.TheVariants.{Short, Wide}
use Rattle.mx_avro.specs.Encoding.{zigzag, groups, long_encoding, bytes_encoding}
use Rattle.mx_avro.specs.Decoding.{StandsAt, IsCut, HoldsBytes, groups_at, signed, placed, long_at, ended_of, bytes_at}
use Rattle.mx_avro.proofs.Groups.{IsBytes, chosen, groups_again, groups_takes, groups_some, ok_is, is_cut, cut, only_faults}

abbrev read : ℤ × ℕ → Result (ℤ × ℕ) AvroError
read x = Ok x

long_is : (x y : ℤ × ℕ) → read x ≡ read y → x ≡ y
long_is x y e = cc

abbrev unread : AvroError → Result (ℤ × ℕ) AvroError
unread e = Err e

unread_is : (d e : AvroError) → unread d ≡ unread e → d ≡ e
unread_is d e h = cc

abbrev failed : AvroError → Result (ℕ × ℕ) AvroError
failed e = Err e

pub signed-zigzag : (n : ℤ) → signed (zigzag n) ≡ n
signed-zigzag (pos n) =
    let even : eqb (2 * n % 2) 0 ≡ true = grind (arith, nat_tests) in
    let half : 2 * n / 2 ≡ n = omega arith in
    rw (even, half) refl
signed-zigzag (negsuc n) =
    let odd : eqb ((2 * n + 1) % 2) 0 ≡ false = grind (arith, nat_tests) in
    let half : (2 * n + 1) / 2 ≡ n = omega arith in
    rw (odd, half) refl

pub zigzag-signed : (n : ℕ) → zigzag (signed n) ≡ n
zigzag-signed n = elim (cases_eq (n % 2) 0) [
  | inl even ↦ let test : eqb (n % 2) 0 ≡ true = grind (arith, nat_tests) in rw test (omega arith)
  | inr odd ↦ let test : eqb (n % 2) 0 ≡ false = grind (arith, nat_tests) in rw test (omega arith)
]

zigzag_fits : (n : ℤ) → FitsSigned w64 n → zigzag n < 2 * 128 ^ 9
zigzag_fits (pos n) fits = omega (arith, ints)
zigzag_fits (negsuc n) fits = omega (arith, ints)

signed_fits : (n : ℕ) → n < 2 * 128 ^ 9 → FitsSigned w64 (signed n)
signed_fits n lt = elim (cases_eq (n % 2) 0) [
  | inl even ↦ let test : eqb (n % 2) 0 ≡ true = grind (arith, nat_tests) in rw test (omega (arith, ints))
  | inr odd ↦ let test : eqb (n % 2) 0 ≡ false = grind (arith, nat_tests) in rw test (omega (arith, ints))
]

IsBytes-drop : (at : ℕ) (bytes : List ℕ) → IsBytes bytes → IsBytes (drop at bytes)
IsBytes-drop at bytes h i = rw get_or-drop (h (at + i))

-- what is written is read again
pub long_again : (bytes : List ℕ) (at : ℕ) (n : ℤ) (rest : List ℕ) → FitsSigned w64 n → drop at bytes ≡ long_encoding n ++ rest → long_at bytes at ≡ Ok (n, at + length (long_encoding n))
unfolding long_at long_encoding
long_again bytes at n rest fits e =
    ap (λ (r : List ℕ). placed at (groups_at at 9 r)) e
    ∙ ap (placed at) (groups_again at 9 (zigzag n) rest (zigzag_fits n fits))
    ∙ ap (λ (m : ℤ). Ok (m, at + length (groups 9 (zigzag n)))) (signed-zigzag n)

placed_ok : (at : ℕ) (r : Result (ℕ × ℕ) AvroError) (x : ℤ × ℕ) → placed at r ≡ Ok x → (n : ℕ × ℕ) × (r ≡ Ok n) × (signed n.0 ≡ x.0) × (at + n.1 ≡ x.1)
placed_ok at (Ok n) x e = (n, refl, ap (λ (y : ℤ × ℕ). y.0) (long_is _ _ e), ap (λ (y : ℤ × ℕ). y.1) (long_is _ _ e))
placed_ok at (Err d) x e = absurd cc

pub record IsLong (bytes : List ℕ) (at : ℕ) (n : ℤ) (end : ℕ) : Type 0 where
  pub fits : FitsSigned w64 n
  pub stands : StandsAt bytes at (long_encoding n) end

-- what is read was written so
pub long_takes : (bytes : List ℕ) (at : ℕ) (x : ℤ × ℕ) → IsBytes bytes → long_at bytes at ≡ Ok x → IsLong bytes at x.0 x.1
unfolding long_at long_encoding
long_takes bytes at x bs e =
    let p = placed_ok at (groups_at at 9 (drop at bytes)) x e in
    let t = groups_takes at 9 (drop at bytes) p.0 (IsBytes-drop at bytes bs) p.1 in
    let spelled : groups 9 (zigzag x.0) ≡ groups 9 p.0.0 = ap (λ (n : ℤ). groups 9 (zigzag n)) (sym p.2) ∙ ap (groups 9) (zigzag-signed p.0.0) in
    record {
      fits = subst (λ (n : ℤ). FitsSigned w64 n) p.2 (signed_fits p.0.0 t.fits);
      stands = (
        sym p.3 ∙ ap (λ (k : ℕ). at + k) (t.len ∙ ap length (sym spelled)),
        t.parts ∙ ap (λ (k : List ℕ). k ++ drop p.0.1 (drop at bytes)) (sym spelled) ∙ ap (λ (r : List ℕ). groups 9 (zigzag x.0) ++ r) (drop-drop p.0.1 at bytes ∙ ap (λ (k : ℕ). drop k bytes) p.3),
      );
    }

-- no spelling begins another
pub long_encoding_first : (m n : ℤ) (x y : List ℕ) → FitsSigned w64 m → FitsSigned w64 n → long_encoding m ++ x ≡ long_encoding n ++ y → (m ≡ n) × (x ≡ y)
long_encoding_first m n x y fits fits' e =
    let one = long_again (long_encoding m ++ x) 0 m x fits refl in
    let two = long_again (long_encoding m ++ x) 0 n y fits' e in
    let both : Ok (m, 0 + length (long_encoding m)) ≡ Ok (n, 0 + length (long_encoding n)) = sym one ∙ two in
    let same : m ≡ n = ap (λ (y : ℤ × ℕ). y.0) (long_is _ _ both) in
    (same, sym (drop-append_seam (long_encoding m) x) ∙ ap (drop (length (long_encoding m))) (e ∙ ap (λ (k : ℤ). long_encoding k ++ y) (sym same)) ∙ drop-append_seam (long_encoding m) y)

pub long_found : (bytes : List ℕ) (at : ℕ) (r : Result (ℤ × ℕ) AvroError) → IsBytes bytes → r ≡ long_at bytes at → IfOk r (λ n. FitsSigned w64 n.0 × StandsAt bytes at (long_encoding n.0) n.1)
long_found bytes at (Ok x) bs e = let t = long_takes bytes at x bs (sym e) in (t.fits, t.stands)
long_found bytes at (Err d) bs e = tt

-- ---- refusals

placed_err : (at : ℕ) (r : Result (ℕ × ℕ) AvroError) (e : AvroError) → placed at r ≡ Err e → r ≡ Err e
placed_err at (Ok n) e h = absurd cc
placed_err at (Err d) e h = ap failed (unread_is d e h)

pub long_cut : (bytes : List ℕ) (at : ℕ) → long_at bytes at ≡ Err (Short at) → IsCut (drop at bytes)
unfolding long_at
long_cut bytes at e = cut at 9 (drop at bytes) (placed_err at _ _ e)

pub long_is_cut : (bytes : List ℕ) (at : ℕ) → IsCut (drop at bytes) → long_at bytes at ≡ Err (Short at)
unfolding long_at
long_is_cut bytes at h = ap (placed at) (is_cut at 9 (drop at bytes) h)

pub long_faults : (bytes : List ℕ) (at : ℕ) (r : Result (ℤ × ℕ) AvroError) → r ≡ long_at bytes at → IfErr r (λ e. (e ≡ Short at) ⊎ (e ≡ Wide at))
unfolding long_at
long_faults bytes at (Ok x) h = tt
long_faults bytes at (Err e) h = only_faults at 9 (drop at bytes) e (placed_err at _ _ (sym h))

-- ---- byte strings

long_some : (n : ℤ) → 0 < length (long_encoding n)
unfolding long_encoding
long_some n = groups_some 9 (zigzag n)

length_fits : (n : ℕ) → n < 2 ^ 63 → FitsSigned w64 (pos n)
length_fits n lt = omega (arith, ints)

pub bytes_again : (bytes : List ℕ) (at : ℕ) (text rest : List ℕ) → length text < 2 ^ 63 → drop at bytes ≡ bytes_encoding text ++ rest
    → bytes_at bytes at ≡ Ok (at + length (long_encoding (pos (length text))), at + length (bytes_encoding text))
bytes_again bytes at text rest lt e =
    let spelled = long_encoding (pos (length text)) in
    let start = at + length spelled in
    let parts : drop at bytes ≡ spelled ++ (text ++ rest) = e ∙ append_assoc spelled text rest in
    let number : long_at bytes at ≡ Ok (pos (length text), start) = long_again bytes at (pos (length text)) (text ++ rest) (length_fits (length text) lt) parts in
    let len : length bytes - at ≡ length spelled + (length text + length rest) = sym (length-drop at bytes) ∙ ap length parts ∙ length-append spelled (text ++ rest) ∙ ap (λ (n : ℕ). length spelled + n) (length-append text rest) in
    let long : ltb (length bytes) (start + length text) ≡ false = le-ltb _ _ (omega (arith, long_some (pos (length text)))) in
    let end : start + length text ≡ at + length (bytes_encoding text) = omega (arith, length-append spelled text) in
    ap (ended_of bytes at) number ∙ rw (long, end) refl

ended_ok : (bytes : List ℕ) (at : ℕ) (r : Result (ℤ × ℕ) AvroError) (x : ℕ × ℕ) → ended_of bytes at r ≡ Ok x → (y : ℕ × ℕ) × (r ≡ Ok (pos y.0, y.1)) × (y.1 + y.0 ≤ length bytes) × ((y.1, y.1 + y.0) ≡ x)
ended_ok bytes at (Ok (pos n, start)) x e = elim (chosen (ltb (length bytes) (start + n)) (Err (Short at)) (Ok (start, start + n)) (Ok x) e) [
  | inl p ↦ absurd (let q = p.1 in cc)
  | inr p ↦ ((n, start), refl, ltb-false _ _ p.0, ok_is _ _ p.1)
]
ended_ok bytes at (Ok (negsuc n, start)) x e = absurd cc
ended_ok bytes at (Err d) x e = absurd cc

holds : (bytes : List ℕ) (at n start : ℕ) → IsLong bytes at (pos n) start → start + n ≤ length bytes → HoldsBytes bytes at start (start + n)
holds bytes at n start long le =
    let count : start + n - start ≡ n = omega arith in
    let len : length (take n (drop start bytes)) ≡ n = omega (arith, length-take n (drop start bytes), length-drop start bytes) in
    let spelled : long_encoding (pos (length (take n (drop start bytes)))) ≡ long_encoding (pos n) = ap (λ (k : ℕ). long_encoding (pos k)) len in
    let behind : drop start bytes ≡ take n (drop start bytes) ++ drop (start + n) bytes = sym (take-append-drop n (drop start bytes)) ∙ ap (λ (r : List ℕ). take n (drop start bytes) ++ r) (drop-drop n start bytes) in
    let end : start + n ≡ at + length (bytes_encoding (take n (drop start bytes))) = omega (arith, length-append (long_encoding (pos (length (take n (drop start bytes))))) (take n (drop start bytes)), ap length spelled, long.stands.0) in
    let parts : drop at bytes ≡ bytes_encoding (take n (drop start bytes)) ++ drop (start + n) bytes =
    long.stands.1 ∙ ap (λ (r : List ℕ). long_encoding (pos n) ++ r) behind
    ∙ sym (append_assoc (long_encoding (pos n)) (take n (drop start bytes)) (drop (start + n) bytes))
    ∙ ap (λ (k : List ℕ). (k ++ take n (drop start bytes)) ++ drop (start + n) bytes) (sym spelled) in
    record { ordered = omega arith; within = le; stands = rw count (end, parts) }

pub bytes_takes : (bytes : List ℕ) (at : ℕ) (x : ℕ × ℕ) → IsBytes bytes → bytes_at bytes at ≡ Ok x → HoldsBytes bytes at x.0 x.1
bytes_takes bytes at x bs e =
    let p = ended_ok bytes at (long_at bytes at) x e in
    subst (λ (y : ℕ × ℕ). HoldsBytes bytes at y.0 y.1) p.3 (holds bytes at p.0.0 p.0.1 (long_takes bytes at (pos p.0.0, p.0.1) bs p.1) p.2)

pub bytes_len_fits : (bytes : List ℕ) (at : ℕ) (x : ℕ × ℕ) → IsBytes bytes → bytes_at bytes at ≡ Ok x → x.1 - x.0 < 2 ^ 63
bytes_len_fits bytes at x bs e =
    let p = ended_ok bytes at (long_at bytes at) x e in
    let fits = (long_takes bytes at (pos p.0.0, p.0.1) bs p.1).fits in
    subst (λ (y : ℕ × ℕ). y.1 - y.0 < 2 ^ 63) p.3 (omega (arith, ints))

pub bytes_found : (bytes : List ℕ) (at : ℕ) (r : Result (ℕ × ℕ) AvroError) → IsBytes bytes → r ≡ bytes_at bytes at → IfOk r (λ x. HoldsBytes bytes at x.0 x.1)
bytes_found bytes at (Ok x) bs e = bytes_takes bytes at x bs (sym e)
bytes_found bytes at (Err d) bs e = tt

-- where the text stands, its length fits
pub text_fits : (bytes : List ℕ) (at : ℕ) (text rest : List ℕ) → length bytes < 2 ^ 63 → drop at bytes ≡ bytes_encoding text ++ rest → length text < 2 ^ 63
text_fits bytes at text rest lt e =
    omega (arith, length-drop at bytes, ap length e, length-append (bytes_encoding text) rest, length-append (long_encoding (pos (length text))) text)

-- no spelling begins another
pub bytes_encoding_first : (a b x y : List ℕ) → length a < 2 ^ 63 → length b < 2 ^ 63 → bytes_encoding a ++ x ≡ bytes_encoding b ++ y → (a ≡ b) × (x ≡ y)
bytes_encoding_first a b x y lt lt' e =
    let parts : long_encoding (pos (length a)) ++ (a ++ x) ≡ long_encoding (pos (length b)) ++ (b ++ y) =
    sym (append_assoc (long_encoding (pos (length a))) a x) ∙ e ∙ append_assoc (long_encoding (pos (length b))) b y in
    let split = long_encoding_first (pos (length a)) (pos (length b)) (a ++ x) (b ++ y) (length_fits (length a) lt) (length_fits (length b) lt') parts in
    let len : length a ≡ length b = cc (split.0) in (
      sym (take-append_seam a x) ∙ ap (λ (n : ℕ). take n (a ++ x)) len ∙ ap (take (length b)) split.1 ∙ take-append_seam b y,
      sym (drop-append_seam a x) ∙ ap (λ (n : ℕ). drop n (a ++ x)) len ∙ ap (drop (length b)) split.1 ∙ drop-append_seam b y,
    )
