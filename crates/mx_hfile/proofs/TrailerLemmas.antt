-- The trailer is read as it was written, and was written as it is read.
use Rattle.std.proofs.Common.{◌≡◌, ℕ, ◌+◌, ◌-◌, ◌^◌, ◌<◌, ◌≤◌, ltb, List, [], ◌++◌, length, replicate, Ok, append_assoc, append-nil, length-append, refl, sym, ap, subst, ◌∙◌, arith}
use Rattle.std.specs.Int.{w32, w64}
use Rattle.std.proofs.lemmas.Bool.{lt-ltb, ltb-true}
use Rattle.std.proofs.lemmas.List.{nil_from_length}
use Rattle.mx_hfile.specs.Encoding.{number, trailer_magic, trailer}
use Rattle.mx_hfile.specs.Decoding.{expected_in, number_in, offset_in, Trailer, trailer_in}
use Rattle.mx_lists.proofs.Codecs.{IsBytes, Took-then, bind_ok, ok_is}
use Rattle.mx_hfile.proofs.FieldLemmas.{passing_again, passing_takes, wide32, wide64, number_codec, expected_takes, expected_again}
use Rattle.mx_hfile.proofs.DividingLemmas.{trailer-length}

abbrev pub zeros : List ℕ
zeros = replicate 16 0

pub trailer-parts : (o m n k : ℕ) (rest : List ℕ)
    → trailer o m n k ++ rest ≡ trailer_magic ++ (number w32 1 ++ (number w32 0 ++ (number w64 o ++ (number w64 m ++ (number w64 n ++ (number w32 k ++ (number w32 0 ++ (zeros ++ rest))))))))
trailer-parts o m n k rest = simp append_assoc

pub trailer_again : (len o n k : ℕ) → o + 80 ≤ len → len < 2 ^ 64 → n < 2 ^ 64 → k < 2 ^ 32 → trailer_in len (trailer o (len - 64 - o) n k) ≡ Ok (record { offset = o; entry_count = n; block_count = k })
unfolding trailer_in
trailer_again len o n k le lt ln lk =
    let m = len - 64 - o in
    let c64 = number_codec w64 (2 ^ 64) wide64 in
    let c32 = number_codec w32 (2 ^ 32) wide32 in
    let h : List ℕ = zeros ++ [] in
    let g : List ℕ = number w32 0 ++ h in
    let f : List ℕ = number w32 k ++ g in
    let e : List ℕ = number w64 n ++ f in
    let d : List ℕ = number w64 m ++ e in
    let offset : offset_in len (number w64 o ++ d) ≡ Ok (o, d) = passing_again (λ x. ltb x (len - 79)) (number_in w64) (number w64 o ++ d) (o, d) (c64.again o d (omega (arith, le, lt))) (lt-ltb _ _ (omega (arith, le))) in
    ap (trailer_in len) (sym (append-nil (trailer o m n k)) ∙ trailer-parts o m n k [])
    ∙ rw (expected_again trailer_magic (number w32 1 ++ (number w32 0 ++ (number w64 o ++ d))), expected_again (number w32 1) (number w32 0 ++ (number w64 o ++ d)), expected_again (number w32 0) (number w64 o ++ d), offset, expected_again (number w64 m) e, c64.again n f ln, c32.again k g lk, expected_again (number w32 0) h, expected_again zeros []) refl

pub record IsTrailer (len : ℕ) (bytes : List ℕ) (t : Trailer) : Type 0 where
  pub spelled : bytes ≡ trailer t.offset (len - 64 - t.offset) t.entry_count t.block_count
  pub room : t.offset < len - 79
  pub entries : t.entry_count < 2 ^ 64
  pub blocks : t.block_count < 2 ^ 32

no_rest : (bytes text rest : List ℕ) → bytes ≡ text ++ rest → length bytes ≡ 64 → length text ≡ 64 → rest ≡ []
no_rest bytes text rest parts is text-is = nil_from_length rest (omega (arith, is, text-is, ap length parts, length-append text rest))

pub trailer_takes : (len : ℕ) (bytes : List ℕ) (t : Trailer) → IsBytes bytes → length bytes ≡ 64 → trailer_in len bytes ≡ Ok t → IsTrailer len bytes t
unfolding trailer_in
trailer_takes len bytes t fits is e =
    let c64 = number_codec w64 (2 ^ 64) wide64 in
    let c32 = number_codec w32 (2 ^ 32) wide32 in
    let x1 = bind_ok (expected_in trailer_magic bytes) _ t e in
    let x2 = bind_ok (expected_in (number w32 1) x1.0) _ t x1.2 in
    let x3 = bind_ok (expected_in (number w32 0) x2.0) _ t x2.2 in
    let x4 = bind_ok (offset_in len x3.0) _ t x3.2 in
    let m = len - 64 - x4.0.0 in
    let x5 = bind_ok (expected_in (number w64 m) x4.0.1) _ t x4.2 in
    let x6 = bind_ok (number_in w64 x5.0) _ t x5.2 in
    let x7 = bind_ok (number_in w32 x6.0.1) _ t x6.2 in
    let x8 = bind_ok (expected_in (number w32 0) x7.0.1) _ t x7.2 in
    let x9 = bind_ok (expected_in zeros x8.0) _ t x8.2 in
    let t1 = expected_takes trailer_magic bytes x1.0 fits x1.1 in
    let t2 = expected_takes (number w32 1) x1.0 x2.0 t1.rest_fits x2.1 in
    let t3 = expected_takes (number w32 0) x2.0 x3.0 t2.rest_fits x3.1 in
    let p4 = passing_takes (λ x. ltb x (len - 79)) (number_in w64) x3.0 x4.0 x4.1 in
    let t4 = (c64.takes x3.0 x4.0 t3.rest_fits p4.0).0 in
    let t5 = expected_takes (number w64 m) x4.0.1 x5.0 t4.rest_fits x5.1 in
    let t6' = c64.takes x5.0 x6.0 t5.rest_fits x6.1 in
    let t6 = t6'.0 in
    let t7' = c32.takes x6.0.1 x7.0 t6.rest_fits x7.1 in
    let t7 = t7'.0 in
    let t8 = expected_takes (number w32 0) x7.0.1 x8.0 t7.rest_fits x8.1 in
    let t9 = expected_takes zeros x8.0 x9.0 t8.rest_fits x9.1 in
    let u2 = Took-then bytes trailer_magic x1.0 (number w32 1) x2.0 t1 t2 in
    let u3 = Took-then bytes (trailer_magic ++ number w32 1) x2.0 (number w32 0) x3.0 u2 t3 in
    let u4 = Took-then bytes (trailer_magic ++ number w32 1 ++ number w32 0) x3.0 (number w64 x4.0.0) x4.0.1 u3 t4 in
    let u5 = Took-then bytes (trailer_magic ++ number w32 1 ++ number w32 0 ++ number w64 x4.0.0) x4.0.1 (number w64 m) x5.0 u4 t5 in
    let u6 = Took-then bytes (trailer_magic ++ number w32 1 ++ number w32 0 ++ number w64 x4.0.0 ++ number w64 m) x5.0 (number w64 x6.0.0) x6.0.1 u5 t6 in
    let u7 = Took-then bytes (trailer_magic ++ number w32 1 ++ number w32 0 ++ number w64 x4.0.0 ++ number w64 m ++ number w64 x6.0.0) x6.0.1 (number w32 x7.0.0) x7.0.1 u6 t7 in
    let u8 = Took-then bytes (trailer_magic ++ number w32 1 ++ number w32 0 ++ number w64 x4.0.0 ++ number w64 m ++ number w64 x6.0.0 ++ number w32 x7.0.0) x7.0.1 (number w32 0) x8.0 u7 t8 in
    let u9 = Took-then bytes (trailer_magic ++ number w32 1 ++ number w32 0 ++ number w64 x4.0.0 ++ number w64 m ++ number w64 x6.0.0 ++ number w32 x7.0.0 ++ number w32 0) x8.0 zeros x9.0 u8 t9 in
    let nothing : x9.0 ≡ [] = no_rest bytes (trailer x4.0.0 m x6.0.0 x7.0.0) x9.0 u9.parts is (trailer-length x4.0.0 m x6.0.0 x7.0.0) in
    let whole : bytes ≡ trailer x4.0.0 m x6.0.0 x7.0.0 = u9.parts ∙ ap (λ (x : List ℕ). trailer x4.0.0 m x6.0.0 x7.0.0 ++ x) nothing ∙ append-nil (trailer x4.0.0 m x6.0.0 x7.0.0) in
    let made : Trailer = record { offset = x4.0.0; entry_count = x6.0.0; block_count = x7.0.0 } in
    subst (λ (z : Trailer). IsTrailer len bytes z) (ok_is made t x9.2) (record { spelled = whole; room = ltb-true _ _ p4.1; entries = t6'.1; blocks = t7'.1 })
