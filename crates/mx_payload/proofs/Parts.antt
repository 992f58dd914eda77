-- Each field is read as it was written, and was written as it is read.
use Rattle.std.proofs.Common.{◌≡◌, ℕ, zero, suc, ◌+◌, ◌-◌, ◌^◌, ℤ, pos, negsuc, Bool, true, false, eqb, List, [], ◌∷◌, ◌++◌, length, take, drop, Result, Ok, Err, refl, sym, ap, subst, ◌∙◌, append_assoc, length-append, length-take, arith}
use Rattle.std.proofs.lemmas.Bool.{eqb-true, ltb-true, lt-ltb, eq-eqb, ne_eqb}
use Rattle.std.proofs.lemmas.Int.{ints}
use Rattle.std.proofs.lemmas.Str.{is_utf8-from_IsUtf8, IsUtf8-from_is_utf8}
use Rattle.std.proofs.Math.Seq.{drop-append_seam, take-append_seam}
use Rattle.std.specs.Str.{is_utf8}
use Rattle.std.specs.Int.{w32, w64}
use Rattle.std.specs.Int.RustNames.{FitsSigned}
use Rattle.mx_avro.specs.declared.error.AvroError.{AvroError}
use Rattle.mx_avro.specs.Encoding.{long_encoding, bytes_encoding}
use Rattle.mx_avro.specs.Decoding.{long_at, bytes_at}
use Rattle.mx_avro.proofs.Longs.{long_again, long_takes, bytes_again, bytes_takes, bytes_len_fits}
use Rattle.mx_schema.specs.declared.cell.Cell.{Cell}
use Rattle.mx_schema.specs.declared.cell.Cell.TheVariants as cells
use Rattle.mx_payload.specs.Rules.{IsLong, IsText, IsCell}
use Rattle.mx_payload.specs.Encoding.{long, flag, cell_bytes}
use Rattle.mx_lists.specs.Reading.{◌>>=◌, Reader, passing}
use Rattle.mx_payload.specs.Decoding.{behind, before_null, number_from, number_in, natural_from, natural_in, is_small, small_in, expected_in, bytes_from, bytes_in, text_in, flag_in, value_in, cell_in}
use Rattle.mx_lists.proofs.Codecs.{IsBytes, IsBytes-drop, Took, Codec, bind_ok, ok_is, Took-then}
use Rattle.mx_payload.proofs.Codecs.{passing_codec, stated}

-- ---- numbers

number_ok : (bytes : List ℕ) (r : Result (ℤ × ℕ) AvroError) (x : ℤ × List ℕ) → number_from bytes r ≡ Ok x → (n : ℤ × ℕ) × (r ≡ Ok n) × ((n.0, drop n.1 bytes) ≡ x)
number_ok bytes (Ok n) x e = (n, refl, ok_is _ _ e)
number_ok bytes (Err d) x e = absurd cc

zero_plus : (n : ℕ) → 0 + n ≡ n
zero_plus n = omega arith

long_first : (n : ℤ) (rest : List ℕ) → FitsSigned w64 n → long_at (long_encoding n ++ rest) 0 ≡ Ok (n, length (long_encoding n))
long_first n rest fits = long_again (long_encoding n ++ rest) 0 n rest fits refl ∙ ap (λ (k : ℕ). Ok (n, k)) (zero_plus (length (long_encoding n)))

bytes_first : (text rest : List ℕ) → IsLong (length text) → bytes_at (bytes_encoding text ++ rest) 0 ≡ Ok (length (long (length text)), length (bytes_encoding text))
bytes_first text rest fits =
    bytes_again (bytes_encoding text ++ rest) 0 text rest fits refl ∙ ap (λ (k : ℕ). Ok (k, 0 + length (bytes_encoding text))) (zero_plus (length (long (length text))))
    ∙ ap (λ (k : ℕ). Ok (length (long (length text)), k)) (zero_plus (length (bytes_encoding text)))

pub number_codec : Codec number_in long_encoding (FitsSigned w64)
number_codec = record {
  again = λ n rest fits. ap (number_from (long_encoding n ++ rest)) (long_first n rest fits) ∙ ap (λ (r : List ℕ). Ok (n, r)) (drop-append_seam (long_encoding n) rest);
  takes = λ bytes x bs e.
      let p = number_ok bytes (long_at bytes 0) x e in
      let t = long_takes bytes 0 p.0 bs p.1 in
      subst (λ (y : ℤ × List ℕ). Took bytes (long_encoding y.0) y.1 × FitsSigned w64 y.0) p.2 (record { parts = t.stands.1; rest_fits = IsBytes-drop p.0.1 bytes bs }, t.fits);
}

natural_ok : (bytes : List ℕ) (n : ℤ × List ℕ) (x : ℕ × List ℕ) → natural_from bytes n ≡ Ok x → n ≡ (pos x.0, x.1)
natural_ok bytes (pos n, rest) x e = ap (λ (y : ℕ × List ℕ). (pos y.0, y.1)) (ok_is _ _ e)
natural_ok bytes (negsuc n, rest) x e = absurd cc

pub natural_codec : Codec natural_in long IsLong
unfolding natural_in
natural_codec = record {
  again = λ n rest fits. rw (number_codec.again (pos n) rest (omega (arith, ints))) refl;
  takes = λ bytes x bs e.
      let a = bind_ok (number_in bytes) (natural_from bytes) x e in
      let is = natural_ok bytes a.0 x a.2 in
      let t = number_codec.takes bytes a.0 bs a.1 in
      let u = subst (λ (y : ℤ × List ℕ). Took bytes (long_encoding y.0) y.1 × FitsSigned w64 y.0) is t in
      let fits : FitsSigned w64 (pos x.0) = u.1 in
      (u.0, omega (arith, ints));
}

small_is : (n : ℤ) → FitsSigned w32 n → is_small n ≡ true
small_is (pos n) fits = lt-ltb n (2 ^ 31) (omega (arith, ints))
small_is (negsuc n) fits = lt-ltb n (2 ^ 31) (omega (arith, ints))

is_small-fits : (n : ℤ) → is_small n ≡ true → FitsSigned w32 n
is_small-fits (pos n) e = let lt = ltb-true n (2 ^ 31) e in omega (arith, ints)
is_small-fits (negsuc n) e = let lt = ltb-true n (2 ^ 31) e in omega (arith, ints)

wider : (n : ℤ) → FitsSigned w32 n → FitsSigned w64 n
wider (pos n) fits = omega (arith, ints)
wider (negsuc n) fits = omega (arith, ints)

pub small_codec : Codec small_in long_encoding (FitsSigned w32)
unfolding small_in
small_codec = stated (FitsSigned w32) (λ n good. is_small-fits n good.1) (λ n fits. (wider n fits, small_is n fits)) (passing_codec is_small number_codec)

pub expected_again : (wanted : ℕ) (rest : List ℕ) → IsLong wanted → expected_in wanted (long wanted ++ rest) ≡ Ok rest
unfolding expected_in
expected_again wanted rest fits =
    let c = passing_codec (λ n. eqb n wanted) natural_codec in
    rw (c.again wanted rest (fits, eq-eqb wanted wanted refl)) refl

pub expected_takes : (wanted : ℕ) (bytes rest : List ℕ) → IsBytes bytes → expected_in wanted bytes ≡ Ok rest → Took bytes (long wanted) rest
unfolding expected_in
expected_takes wanted bytes rest bs e =
    let c = passing_codec (λ n. eqb n wanted) natural_codec in
    let a = bind_ok (passing (λ n. eqb n wanted) natural_in bytes) (λ n. Ok n.1) rest e in
    let t = c.takes bytes a.0 bs a.1 in
    subst (λ (r : List ℕ). Took bytes (long wanted) r) (ok_is a.0.1 rest a.2) (subst (λ (n : ℕ). Took bytes (long n) a.0.1) (eqb-true a.0.0 wanted t.1.1) t.0)

module _ {A : Type 0} {r : Reader A} {s : A → List ℕ} {G : A → Type 0} where
  pub behind_codec : (wanted : ℕ) → IsLong wanted → Codec r s G → Codec (behind wanted r) (λ x. long wanted ++ s x) G
  behind_codec wanted fits c = record {
    again = λ x rest good. ap (behind wanted r) (append_assoc (long wanted) (s x) rest) ∙ rw (expected_again wanted (s x ++ rest) fits) (c.again x rest good);
    takes = λ bytes y bs e.
        let a = bind_ok (expected_in wanted bytes) r y e in
        let t = expected_takes wanted bytes a.0 bs a.1 in
        let u = c.takes a.0 y t.rest_fits a.2 in
        (Took-then bytes (long wanted) a.0 (s y.0) y.1 t u.0, u.1);
  }

  pub before_null_codec : Codec r s G → Codec (before_null r) (λ x. s x ++ long 0) G
  before_null_codec c = record {
    again = λ x rest good. ap (before_null r) (append_assoc (s x) (long 0) rest) ∙ rw (c.again x (long 0 ++ rest) good, expected_again 0 rest (omega arith)) refl;
    takes = λ bytes y bs e.
        let a = bind_ok (r bytes) (λ x. expected_in 0 x.1 >>= λ rest. Ok (x.0, rest)) y e in
        let b = bind_ok (expected_in 0 a.0.1) (λ rest. Ok (a.0.0, rest)) y a.2 in
        let t = c.takes bytes a.0 bs a.1 in
        let u = expected_takes 0 a.0.1 b.0 t.0.rest_fits b.1 in
        let made : A × List ℕ = (a.0.0, b.0) in
        subst (λ (z : A × List ℕ). Took bytes (s z.0 ++ long 0) z.1 × G z.0) (ok_is made y b.2) (Took-then bytes (s a.0.0) a.0.1 (long 0) b.0 t.0 u, t.1);
  }

-- ---- byte strings

bytes_ok : (bytes : List ℕ) (r : Result (ℕ × ℕ) AvroError) (x : List ℕ × List ℕ) → bytes_from bytes r ≡ Ok x → (p : ℕ × ℕ) × (r ≡ Ok p) × ((take (p.1 - p.0) (drop p.0 bytes), drop p.1 bytes) ≡ x)
bytes_ok bytes (Ok p) x e = (p, refl, ok_is _ _ e)
bytes_ok bytes (Err d) x e = absurd cc

cut_out : (front text rest : List ℕ) → bytes_from ((front ++ text) ++ rest) (Ok (length front, length (front ++ text))) ≡ Ok (text, rest)
cut_out front text rest =
    let count : length (front ++ text) - length front ≡ length text = omega (arith, length-append front text) in
    let inner : take (length (front ++ text) - length front) (drop (length front) ((front ++ text) ++ rest)) ≡ text =
    ap (λ (k : ℕ). take k (drop (length front) ((front ++ text) ++ rest))) count
    ∙ ap (λ (l : List ℕ). take (length text) (drop (length front) l)) (append_assoc front text rest)
    ∙ ap (take (length text)) (drop-append_seam front (text ++ rest)) ∙ take-append_seam text rest in
    rw (inner, drop-append_seam (front ++ text) rest) refl

pub bytes_codec : Codec bytes_in bytes_encoding (λ text. IsLong (length text))
unfolding bytes_in
bytes_codec = record {
  again = λ text rest fits. ap (bytes_from (bytes_encoding text ++ rest)) (bytes_first text rest fits) ∙ cut_out (long (length text)) text rest;
  takes = λ bytes x bs e.
      let p = bytes_ok bytes (bytes_at bytes 0) x e in
      let t = bytes_takes bytes 0 p.0 bs p.1 in
      let len = bytes_len_fits bytes 0 p.0 bs p.1 in
      subst (λ (y : List ℕ × List ℕ). Took bytes (bytes_encoding y.0) y.1 × IsLong (length y.0)) p.2 (record { parts = t.stands.1; rest_fits = IsBytes-drop p.0.1 bytes bs }, omega (arith, length-take (p.0.1 - p.0.0) (drop p.0.0 bytes)));
}

pub text_codec : Codec text_in bytes_encoding IsText
unfolding text_in
text_codec = stated IsText (λ text good. record { utf8 = IsUtf8-from_is_utf8 text good.1; len = good.0 }) (λ text good. (good.len, is_utf8-from_IsUtf8 text good.utf8)) (passing_codec is_utf8 bytes_codec)

abbrev pub Any : {A : Type 0} → A → Type 0
Any x = Unit {0}

IsBytes-rest : (b : ℕ) (bytes : List ℕ) → IsBytes (b ∷ bytes) → IsBytes bytes
IsBytes-rest b bytes h i = h (suc i)

flag_again : (b : Bool) (rest : List ℕ) → flag_in (flag b ++ rest) ≡ Ok (b, rest)
unfolding flag_in
flag_again true rest = refl
flag_again false rest = refl

flag_takes : (bytes : List ℕ) (x : Bool × List ℕ) → IsBytes bytes → flag_in bytes ≡ Ok x → Took bytes (flag x.0) x.1
unfolding flag_in
flag_takes [] x bs e = absurd cc
flag_takes (zero ∷ rest) x bs e = subst (λ (y : Bool × List ℕ). Took (0 ∷ rest) (flag y.0) y.1) (ok_is (false, rest) x e) (record { parts = refl; rest_fits = IsBytes-rest 0 rest bs })
flag_takes (suc zero ∷ rest) x bs e = subst (λ (y : Bool × List ℕ). Took (1 ∷ rest) (flag y.0) y.1) (ok_is (true, rest) x e) (record { parts = refl; rest_fits = IsBytes-rest 1 rest bs })
flag_takes (suc (suc b) ∷ rest) x bs e = absurd cc

pub flag_codec : Codec flag_in flag Any
flag_codec = record { again = λ b rest good. flag_again b rest; takes = λ bytes x bs e. (flag_takes bytes x bs e, tt) }

-- ---- cells

abbrev failed : ℕ → Result (Cell × List ℕ) ℕ
failed left = Err left

cell_again : (c : Cell) (rest : List ℕ) → IsCell c → cell_in (cell_bytes c ++ rest) ≡ Ok (c, rest)
unfolding cell_in
cell_again cells.Null rest good = rw (natural_codec.again 0 rest (omega arith)) refl
cell_again (cells.Flag b) rest good = ap cell_in (append_assoc (long 1) (flag b) rest) ∙ rw (natural_codec.again 1 (flag b ++ rest) (omega arith), flag_again b rest) refl
cell_again (cells.Small n) rest good = ap cell_in (append_assoc (long 2) (long_encoding n) rest) ∙ rw (natural_codec.again 2 (long_encoding n ++ rest) (omega arith), small_codec.again n rest good) refl
cell_again (cells.Whole n) rest good = ap cell_in (append_assoc (long 3) (long_encoding n) rest) ∙ rw (natural_codec.again 3 (long_encoding n ++ rest) (omega arith), number_codec.again n rest good) refl
cell_again (cells.Text text) rest good = ap cell_in (append_assoc (long 4) (bytes_encoding text) rest) ∙ rw (natural_codec.again 4 (bytes_encoding text ++ rest) (omega arith), text_codec.again text rest good) refl

-- a value in a cell
into : {A : Type 0} {r : Reader A} {s : A → List ℕ} {G : A → Type 0} → Codec r s G → (f : A → Cell) (branch : ℕ) → ((x : A) → cell_bytes (f x) ≡ long branch ++ s x) → ((x : A) → G x → IsCell (f x))
    → (bytes front : List ℕ) (y : Cell × List ℕ) → Took front (long branch) bytes → (r bytes >>= λ x. Ok (f x.0, x.1)) ≡ Ok y → Took front (cell_bytes y.0) y.1 × IsCell y.0
into {r = r} {s = s} c f branch spelled good bytes front y first e =
    let a = bind_ok (r bytes) (λ x. Ok (f x.0, x.1)) y e in
    let t = c.takes bytes a.0 first.rest_fits a.1 in
    let made : Cell × List ℕ = (f a.0.0, a.0.1) in
    let both : Took front (long branch ++ s a.0.0) a.0.1 = Took-then front (long branch) bytes (s a.0.0) a.0.1 first t.0 in
    subst (λ (z : Cell × List ℕ). Took front (cell_bytes z.0) z.1 × IsCell z.0) (ok_is made y a.2) (rw spelled both, good a.0.0 t.1)

differ : (left : ℕ) (y : Cell × List ℕ) → failed left ≡ Ok y → ⊥
differ left y e = absurd cc

value_takes : (branch left : ℕ) (bytes front : List ℕ) (y : Cell × List ℕ) → Took front (long branch) bytes → value_in left branch bytes ≡ Ok y → Took front (cell_bytes y.0) y.1 × IsCell y.0
value_takes zero left bytes front y first e = subst (λ (z : Cell × List ℕ). Took front (cell_bytes z.0) z.1 × IsCell z.0) (ok_is (cells.Null, bytes) y e) (first, tt)
value_takes (suc zero) left bytes front y first e = into flag_codec cells.Flag 1 (λ b. refl) (λ b good. tt) bytes front y first e
value_takes (suc (suc zero)) left bytes front y first e = into small_codec cells.Small 2 (λ n. refl) (λ n good. good) bytes front y first e
value_takes (suc (suc (suc zero))) left bytes front y first e = into number_codec cells.Whole 3 (λ n. refl) (λ n good. good) bytes front y first e
value_takes (suc (suc (suc (suc zero)))) left bytes front y first e = into text_codec cells.Text 4 (λ t. refl) (λ t good. good) bytes front y first e
value_takes (suc (suc (suc (suc (suc n))))) left bytes front y first e =
    let b = suc (suc (suc (suc (suc n)))) in
    let not0 : eqb b 0 ≡ false = ne_eqb b 0 (λ h. omega arith) in
    let not1 : eqb b 1 ≡ false = ne_eqb b 1 (λ h. omega arith) in
    let not2 : eqb b 2 ≡ false = ne_eqb b 2 (λ h. omega arith) in
    let not3 : eqb b 3 ≡ false = ne_eqb b 3 (λ h. omega arith) in
    let not4 : eqb b 4 ≡ false = ne_eqb b 4 (λ h. omega arith) in
    let refused : value_in left b bytes ≡ Err left = rw (not0, not1, not2, not3, not4) refl in
    absurd (differ left y (sym refused ∙ e))

pub cell_codec : Codec cell_in cell_bytes IsCell
unfolding cell_in
cell_codec = record {
  again = cell_again;
  takes = λ bytes y bs e.
      let a = bind_ok (natural_in bytes) (λ branch. value_in (length bytes) branch.0 branch.1) y e in
      let t = natural_codec.takes bytes a.0 bs a.1 in
      value_takes a.0.0 (length bytes) a.0.1 bytes y t.0 a.2;
}
