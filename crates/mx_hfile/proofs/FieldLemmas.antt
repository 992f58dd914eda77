-- Each field is read as it was written, and was written as it is read.
use Rattle.std.proofs.Common.{◌≡◌, ℕ, ◌+◌, ◌^◌, ◌<◌, ◌≤◌, Bool, true, false, cond, ltb, List, ◌++◌, length, take, drop, Ok, Err, refl, sym, ap, subst, ◌∙◌, append_assoc, length-append, arith}
use Rattle.std.specs.Int.{Width, w16, w32, w64, byte_len, from_be_bytes}
use Rattle.std.proofs.lemmas.Bool.{ltb-false, ltb-true, le-ltb, lt-ltb}
use Rattle.std.proofs.lemmas.Slice.Eq.{bytes_eq-Decides}
use Rattle.std.proofs.lemmas.List.{take_at, drop_at, take-append-drop, length-take, length-drop}
use Rattle.std.proofs.lemmas.Nat.{be_bytes_2, be_bytes_4, be_bytes_8, from_be_bytes-to_be_bytes_2, from_be_bytes-to_be_bytes_4, from_be_bytes-to_be_bytes_8}
use Rattle.mx_base.specs.declared.entry.Entry.{Entry}
use Rattle.mx_lists.proofs.Codecs.{IsBytes, IsBytes-drop, IsBytes-take, Took, Codec, bind_ok, passed, ok_is, Took-then}
use Rattle.mx_hfile.specs.Encoding.{number, entry_bytes}
use Rattle.mx_lists.specs.Reading.{◌>>=◌, Reader, passing}
use Rattle.mx_hfile.specs.Decoding.{number_in, text_in, is_same, expected_in, key_in, value_in, entry_in}

-- a refusal that did not come
pub unrefused : {A : Type 0} (b : Bool) (x y : A) (left : ℕ) → cond b (Err left) (Ok x) ≡ Ok y → (b ≡ false) × (x ≡ y)
unrefused true x y left e = absurd cc
unrefused false x y left e = (refl, cc)

pub passing_again : {A : Type 0} (test : A → Bool) (read : Reader A) (bytes : List ℕ) (x : A × List ℕ) → read bytes ≡ Ok x → test x.0 ≡ true → passing test read bytes ≡ Ok x
passing_again test read bytes x e t = rw (e, t) refl

pub passing_takes : {A : Type 0} (test : A → Bool) (read : Reader A) (bytes : List ℕ) (y : A × List ℕ) → passing test read bytes ≡ Ok y → (read bytes ≡ Ok y) × (test y.0 ≡ true)
passing_takes test read bytes y e =
    let a = bind_ok (read bytes) (λ x. cond (test x.0) (Ok x) (Err (length bytes))) y e in
    let g = passed (test a.0.0) a.0 y (length bytes) a.2 in
    subst (λ (z : _). (read bytes ≡ Ok z) × (test z.0 ≡ true)) g.1 (a.1, g.0)

-- ---- numbers

pub record IsWide (w : Width) (limit : ℕ) : Type 0 where
  pub len : (n : ℕ) → length (number w n) ≡ byte_len w
  pub back : (bytes : List ℕ) → length bytes ≡ byte_len w → IsBytes bytes → number w (from_be_bytes w bytes) ≡ bytes
  pub again : (n : ℕ) → n < limit → from_be_bytes w (number w n) ≡ n
  pub below : (bytes : List ℕ) → IsBytes bytes → from_be_bytes w bytes < limit

pub wide16 : IsWide w16 (2 ^ 16)
unfolding number
wide16 = record {
  len = λ n. refl;
  back = λ bytes len fits. be_bytes_2 bytes _ len fits refl;
  again = λ n lt. from_be_bytes-to_be_bytes_2 n lt;
  below = λ bytes fits. omega (arith, fits 0, fits 1);
}

pub wide32 : IsWide w32 (2 ^ 32)
unfolding number
wide32 = record {
  len = λ n. refl;
  back = λ bytes len fits. be_bytes_4 bytes _ len fits refl;
  again = λ n lt. from_be_bytes-to_be_bytes_4 n lt;
  below = λ bytes fits. omega (arith, fits 0, fits 1, fits 2, fits 3);
}

pub wide64 : IsWide w64 (2 ^ 64)
unfolding number
wide64 = record {
  len = λ n. refl;
  back = λ bytes len fits. be_bytes_8 bytes _ len fits refl;
  again = λ n lt. from_be_bytes-to_be_bytes_8 n lt;
  below = λ bytes fits. omega (arith, fits 0, fits 1, fits 2, fits 3, fits 4, fits 5, fits 6, fits 7);
}

pub number_left : (w : Width) (bytes : List ℕ) (x : ℕ × List ℕ) → number_in w bytes ≡ Ok x → byte_len w + length x.1 ≡ length bytes
unfolding number_in
number_left w bytes x e =
    let g = unrefused (ltb (length bytes) (byte_len w)) (from_be_bytes w (take (byte_len w) bytes), drop (byte_len w) bytes) x (length bytes) e in
    let long : byte_len w ≤ length bytes = ltb-false _ _ g.0 in
    let is : length (drop (byte_len w) bytes) ≡ length x.1 = ap (λ (p : ℕ × List ℕ). length p.1) g.1 in
    omega (arith, length-drop (byte_len w) bytes)

pub number_codec : (w : Width) (limit : ℕ) → IsWide w limit → Codec (number_in w) (number w) (λ n. n < limit)
unfolding number_in
number_codec w limit wide = record {
  again = λ n rest lt.
      let len = wide.len n in
      let long : ltb (length (number w n ++ rest)) (byte_len w) ≡ false = le-ltb _ _ (omega (arith, length-append (number w n) rest)) in
      rw (long, take_at (number w n) rest (byte_len w) len, drop_at (number w n) rest (byte_len w) len, wide.again n lt) refl;
  takes = λ bytes x fits e.
      let g = unrefused (ltb (length bytes) (byte_len w)) (from_be_bytes w (take (byte_len w) bytes), drop (byte_len w) bytes) x (length bytes) e in
      let long : byte_len w ≤ length bytes = ltb-false _ _ g.0 in
      let front : number w (from_be_bytes w (take (byte_len w) bytes)) ≡ take (byte_len w) bytes = wide.back (take (byte_len w) bytes) (omega (arith, length-take (byte_len w) bytes)) (IsBytes-take (byte_len w) bytes fits) in
      let parts : bytes ≡ number w (from_be_bytes w (take (byte_len w) bytes)) ++ drop (byte_len w) bytes = sym (ap (λ (t : List ℕ). t ++ drop (byte_len w) bytes) front ∙ take-append-drop (byte_len w) bytes) in
      subst (λ (p : ℕ × List ℕ). Took bytes (number w p.0) p.1 × (p.0 < limit)) g.1 (record { parts = parts; rest_fits = IsBytes-drop (byte_len w) bytes fits }, wide.below (take (byte_len w) bytes) (IsBytes-take (byte_len w) bytes fits));
}

-- ---- texts

pub text_left : (len : ℕ) (bytes : List ℕ) (x : List ℕ × List ℕ) → text_in len bytes ≡ Ok x → (bytes ≡ x.0 ++ x.1) × (length x.0 ≡ len)
unfolding text_in
text_left len bytes x e =
    let g = unrefused (ltb (length bytes) len) (take len bytes, drop len bytes) x (length bytes) e in
    let long : len ≤ length bytes = ltb-false _ _ g.0 in
    subst (λ (p : List ℕ × List ℕ). (bytes ≡ p.0 ++ p.1) × (length p.0 ≡ len)) g.1 (sym (take-append-drop len bytes), omega (arith, length-take len bytes))

pub text_takes : (len : ℕ) (bytes : List ℕ) (x : List ℕ × List ℕ) → IsBytes bytes → text_in len bytes ≡ Ok x → Took bytes x.0 x.1 × (length x.0 ≡ len)
unfolding text_in
text_takes len bytes x fits e =
    let g = unrefused (ltb (length bytes) len) (take len bytes, drop len bytes) x (length bytes) e in
    let t = text_left len bytes x e in
    let rest : drop len bytes ≡ x.1 = ap (λ (p : List ℕ × List ℕ). p.1) g.1 in
    (record { parts = t.0; rest_fits = subst IsBytes rest (IsBytes-drop len bytes fits) }, t.1)

pub text_again : (len : ℕ) (text rest : List ℕ) → len ≡ length text → text_in len (text ++ rest) ≡ Ok (text, rest)
unfolding text_in
text_again len text rest is =
    let long : ltb (length (text ++ rest)) len ≡ false = le-ltb _ _ (omega (arith, length-append text rest)) in
    rw (long, take_at text rest len (sym is), drop_at text rest len (sym is)) refl

pub expected_takes : (wanted bytes rest : List ℕ) → IsBytes bytes → expected_in wanted bytes ≡ Ok rest → Took bytes wanted rest
unfolding expected_in
expected_takes wanted bytes rest fits e =
    let a = bind_ok (passing (λ text. is_same text wanted) (text_in (length wanted)) bytes) (λ x. Ok x.1) rest e in
    let p = passing_takes (λ text. is_same text wanted) (text_in (length wanted)) bytes a.0 a.1 in
    let t = text_takes (length wanted) bytes a.0 fits p.0 in
    let same : a.0.0 ≡ wanted = (bytes_eq-Decides a.0.0 wanted).0 p.1 in
    subst (λ (r : List ℕ). Took bytes wanted r) (ok_is a.0.1 rest a.2) (subst (λ (text : List ℕ). Took bytes text a.0.1) same t.0)

pub expected_again : (wanted rest : List ℕ) → expected_in wanted (wanted ++ rest) ≡ Ok rest
unfolding expected_in
expected_again wanted rest =
    rw (passing_again (λ text. is_same text wanted) (text_in (length wanted)) (wanted ++ rest) (wanted, rest) (text_again (length wanted) wanted rest refl) ((bytes_eq-Decides wanted wanted).1 refl)) refl

-- ---- keys, values and entries

abbrev pub spelled : Width → List ℕ → List ℕ
spelled w text = number w (length text) ++ text

abbrev pub IsGoodKey : (List ℕ → Bool) → List ℕ → Type 0
IsGoodKey test key = (0 < length key) × (length key < 2 ^ 16) × (test key ≡ true)

pub key_codec : (test : List ℕ → Bool) → Codec (key_in test) (spelled w16) (IsGoodKey test)
unfolding key_in
key_codec test =
    let c = number_codec w16 (2 ^ 16) wide16 in
    record {
      again = λ key rest good.
          let len = passing_again (ltb 0) (number_in w16) (number w16 (length key) ++ (key ++ rest)) (length key, key ++ rest) (c.again (length key) (key ++ rest) good.1) (lt-ltb 0 (length key) good.0) in
          let text = passing_again test (text_in (length key)) (key ++ rest) (key, rest) (text_again (length key) key rest refl) good.2 in
          ap (key_in test) (append_assoc (number w16 (length key)) key rest) ∙ rw len text;
      takes = λ bytes x fits e.
          let a = bind_ok (passing (ltb 0) (number_in w16) bytes) (λ len. passing test (text_in len.0) len.1) x e in
          let p = passing_takes (ltb 0) (number_in w16) bytes a.0 a.1 in
          let t = c.takes bytes a.0 fits p.0 in
          let q = passing_takes test (text_in a.0.0) a.0.1 x a.2 in
          let u = text_takes a.0.0 a.0.1 x t.0.rest_fits q.0 in
          let some : 0 < a.0.0 = ltb-true 0 a.0.0 p.1 in
          let both = Took-then bytes (number w16 a.0.0) a.0.1 x.0 x.1 t.0 u.0 in
          (subst (λ (n : ℕ). Took bytes (number w16 n ++ x.0) x.1) (sym u.1) both, (omega (arith, u.1), omega (arith, u.1, t.1), q.1));
    }

abbrev pub IsGoodValue : List ℕ → Type 0
IsGoodValue value = length value < 2 ^ 32

pub value_codec : Codec value_in (spelled w32) IsGoodValue
unfolding value_in
value_codec =
    let c = number_codec w32 (2 ^ 32) wide32 in
    record {
      again = λ value rest good.
          ap value_in (append_assoc (number w32 (length value)) value rest)
          ∙ rw (c.again (length value) (value ++ rest) good) (text_again (length value) value rest refl);
      takes = λ bytes x fits e.
          let a = bind_ok (number_in w32 bytes) (λ len. text_in len.0 len.1) x e in
          let t = c.takes bytes a.0 fits a.1 in
          let u = text_takes a.0.0 a.0.1 x t.0.rest_fits a.2 in
          let both = Took-then bytes (number w32 a.0.0) a.0.1 x.0 x.1 t.0 u.0 in
          (subst (λ (n : ℕ). Took bytes (number w32 n ++ x.0) x.1) (sym u.1) both, omega (arith, u.1, t.1));
    }

pub record IsGoodEntry (test : List ℕ → Bool) (e : Entry) : Type 0 where
  pub key : IsGoodKey test e.key
  pub value : IsGoodValue e.value

pub entry-parts : (e : Entry) → entry_bytes e ≡ spelled w16 e.key ++ spelled w32 e.value
entry-parts e = simp append_assoc

pub entry_codec : (test : List ℕ → Bool) → Codec (entry_in test) entry_bytes (IsGoodEntry test)
unfolding entry_in
entry_codec test =
    let k = key_codec test in
    record {
      again = λ e rest good.
          ap (λ (b : List ℕ). entry_in test (b ++ rest)) (entry-parts e) ∙ ap (entry_in test) (append_assoc (spelled w16 e.key) (spelled w32 e.value) rest)
          ∙ rw (k.again e.key (spelled w32 e.value ++ rest) good.key, value_codec.again e.value rest good.value) refl;
      takes = λ bytes y fits h.
          let a = bind_ok (key_in test bytes) (λ key. value_in key.1 >>= λ value. Ok (record { key = key.0; value = value.0 }, value.1)) y h in
          let b = bind_ok (value_in a.0.1) (λ value. Ok (record { key = a.0.0; value = value.0 }, value.1)) y a.2 in
          let t = k.takes bytes a.0 fits a.1 in
          let u = value_codec.takes a.0.1 b.0 t.0.rest_fits b.1 in
          let e : Entry = record { key = a.0.0; value = b.0.0 } in
          let made : Entry × List ℕ = (e, b.0.1) in
          let both = Took-then bytes (spelled w16 a.0.0) a.0.1 (spelled w32 b.0.0) b.0.1 t.0 u.0 in
          subst (λ (z : Entry × List ℕ). Took bytes (entry_bytes z.0) z.1 × IsGoodEntry test z.0) (ok_is made y b.2) (subst (λ (x : List ℕ). Took bytes x b.0.1) (sym (entry-parts e)) both, record { key = t.1; value = u.1 });
    }

-- an entry has bytes
pub entry_shorter : (test : List ℕ → Bool) (bytes : List ℕ) (y : Entry × List ℕ) → entry_in test bytes ≡ Ok y → length y.1 < length bytes
unfolding entry_in key_in value_in
entry_shorter test bytes y h =
    let a = bind_ok (key_in test bytes) (λ key. value_in key.1 >>= λ value. Ok (record { key = key.0; value = value.0 }, value.1)) y h in
    let b = bind_ok (value_in a.0.1) (λ value. Ok (record { key = a.0.0; value = value.0 }, value.1)) y a.2 in
    let k = bind_ok (passing (ltb 0) (number_in w16) bytes) (λ len. passing test (text_in len.0) len.1) a.0 a.1 in
    let kn = number_left w16 bytes k.0 (passing_takes (ltb 0) (number_in w16) bytes k.0 k.1).0 in
    let kt = text_left k.0.0 k.0.1 a.0 (passing_takes test (text_in k.0.0) k.0.1 a.0 k.2).0 in
    let v = bind_ok (number_in w32 a.0.1) (λ len. text_in len.0 len.1) b.0 b.1 in
    let vn = number_left w32 a.0.1 v.0 v.1 in
    let vt = text_left v.0.0 v.0.1 b.0 v.2 in
    let made : Entry × List ℕ = (record { key = a.0.0; value = b.0.0 }, b.0.1) in
    let same : length b.0.1 ≡ length y.1 = ap (λ (z : Entry × List ℕ). length z.1) (ok_is made y b.2) in
    omega (arith, ap length kt.0, length-append a.0.0 a.0.1, ap length vt.0, length-append b.0.0 b.0.1)

-- how many bytes an entry has
pub entry_left : (test : List ℕ → Bool) (bytes : List ℕ) (y : Entry × List ℕ) → entry_in test bytes ≡ Ok y → 6 + length y.0.key + length y.0.value + length y.1 ≡ length bytes
unfolding entry_in key_in value_in
entry_left test bytes y h =
    let a = bind_ok (key_in test bytes) (λ key. value_in key.1 >>= λ value. Ok (record { key = key.0; value = value.0 }, value.1)) y h in
    let b = bind_ok (value_in a.0.1) (λ value. Ok (record { key = a.0.0; value = value.0 }, value.1)) y a.2 in
    let k = bind_ok (passing (ltb 0) (number_in w16) bytes) (λ len. passing test (text_in len.0) len.1) a.0 a.1 in
    let kn = number_left w16 bytes k.0 (passing_takes (ltb 0) (number_in w16) bytes k.0 k.1).0 in
    let kt = text_left k.0.0 k.0.1 a.0 (passing_takes test (text_in k.0.0) k.0.1 a.0 k.2).0 in
    let v = bind_ok (number_in w32 a.0.1) (λ len. text_in len.0 len.1) b.0 b.1 in
    let vn = number_left w32 a.0.1 v.0 v.1 in
    let vt = text_left v.0.0 v.0.1 b.0 v.2 in
    let made : Entry × List ℕ = (record { key = a.0.0; value = b.0.0 }, b.0.1) in
    let is = ok_is made y b.2 in
    let rest : length b.0.1 ≡ length y.1 = ap (λ (z : Entry × List ℕ). length z.1) is in
    let key : length a.0.0 ≡ length y.0.key = ap (λ (z : Entry × List ℕ). length z.0.key) is in
    let value : length b.0.0 ≡ length y.0.value = ap (λ (z : Entry × List ℕ). length z.0.value) is in
    omega (arith, ap length kt.0, length-append a.0.0 a.0.1, ap length vt.0, length-append b.0.0 b.0.1)
