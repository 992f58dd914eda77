-- What the index says is read as it was written, and was written as it is read.
use Rattle.std.proofs.Common.{◌≡◌, ℕ, zero, suc, ◌+◌, ◌-◌, ◌^◌, ◌<◌, ◌≤◌, true, cond, eqb, List, [], ◌∷◌, ◌++◌, length, None, Ok, Err, refl, sym, ap, subst, ◌∙◌, append_assoc, append-nil, length-append, arith}
use Rattle.std.specs.Int.{w16, w32, w64}
use Rattle.std.proofs.lemmas.Bool.{eqb-true, eq-eqb}
use Rattle.std.proofs.lemmas.Bool.Decides.{nat_tests}
use Rattle.std.proofs.lemmas.List.{nil_from_length}
use Rattle.mx_hfile.specs.Encoding.{number, index_magic, Place, listing, listings, index}
use Rattle.mx_lists.specs.Reading.{◌>>=◌, passing}
use Rattle.mx_hfile.specs.Decoding.{number_in, expected_in, is_key, key_in, is_length, listing_in, listings_in, index_in}
use Rattle.mx_hfile.specs.Seen.{Covers}
use Rattle.mx_lists.proofs.Codecs.{IsBytes, Took, Took-then, bind_ok, passed, ok_is}
use Rattle.mx_hfile.proofs.FieldLemmas.{passing_again, passing_takes, wide32, number_codec, expected_takes, expected_again, IsGoodKey, key_codec, spelled}

-- what is said of a block fits the data, with so many blocks behind it
pub record IsGoodPlace (more at end : ℕ) (last : List ℕ) (p : Place) : Type 0 where
  pub within : is_length more at end p.len ≡ true
  pub key : IsGoodKey (is_key last None) p.key
  pub len : p.len < 2 ^ 32

abbrev pub AreGoodPlaces : ℕ → ℕ → List ℕ → List Place → Type 0
AreGoodPlaces at end last [] = at ≡ end
AreGoodPlaces at end last (p ∷ ps) = IsGoodPlace (length ps) at end last p × AreGoodPlaces (at + p.len) end p.key ps

pub is_length-within : (more at end len : ℕ) → is_length more at end len ≡ true → at + len ≤ end
is_length-within zero at end len e = omega (arith, eqb-true (at + len) end e)
is_length-within (suc more) at end len e = grind (arith, nat_tests)

pub covers : (at end : ℕ) (last : List ℕ) (ps : List Place) → AreGoodPlaces at end last ps → Covers (end - at) ps
covers at end last [] good = omega (arith, good)
covers at end last (p ∷ ps) good =
    let le = is_length-within (length ps) at end p.len good.0.within in
    let same : end - (at + p.len) ≡ end - at - p.len = omega arith in
    (omega arith, subst (λ (n : ℕ). Covers n ps) same (covers (at + p.len) end p.key ps good.1))

listing-parts : (at : ℕ) (p : Place) → listing at p ≡ number w64 at ++ (number w32 p.len ++ spelled w16 p.key)
listing-parts at p = simp append_assoc

listing_takes : (more at end : ℕ) (last bytes : List ℕ) (y : Place × List ℕ) → IsBytes bytes → listing_in more at end last bytes ≡ Ok y → Took bytes (listing at y.0) y.1 × IsGoodPlace more at end last y.0
unfolding listing_in
listing_takes more at end last bytes y fits e =
    let a = bind_ok (expected_in (number w64 at) bytes) (λ rest. passing (is_length more at end) (number_in w32) rest >>= λ len. key_in (is_key last None) len.1 >>= λ key. Ok (record { len = len.0; key = key.0 }, key.1)) y e in
    let b = bind_ok (passing (is_length more at end) (number_in w32) a.0) (λ len. key_in (is_key last None) len.1 >>= λ key. Ok (record { len = len.0; key = key.0 }, key.1)) y a.2 in
    let c = bind_ok (key_in (is_key last None) b.0.1) (λ key. Ok (record { len = b.0.0; key = key.0 }, key.1)) y b.2 in
    let t = expected_takes (number w64 at) bytes a.0 fits a.1 in
    let p = passing_takes (is_length more at end) (number_in w32) a.0 b.0 b.1 in
    let u = (number_codec w32 (2 ^ 32) wide32).takes a.0 b.0 t.rest_fits p.0 in
    let v = (key_codec (is_key last None)).takes b.0.1 c.0 u.0.rest_fits c.1 in
    let place : Place = record { len = b.0.0; key = c.0.0 } in
    let made : Place × List ℕ = (place, c.0.1) in
    let both = Took-then bytes (number w64 at) a.0 (number w32 b.0.0 ++ spelled w16 c.0.0) c.0.1 t (Took-then a.0 (number w32 b.0.0) b.0.1 (spelled w16 c.0.0) c.0.1 u.0 v.0) in
    let good : IsGoodPlace more at end last place = record { within = p.1; key = v.1; len = u.1 } in
    subst (λ (z : Place × List ℕ). Took bytes (listing at z.0) z.1 × IsGoodPlace more at end last z.0) (ok_is made y c.2) (subst (λ (x : List ℕ). Took bytes x c.0.1) (sym (listing-parts at place)) both, good)

listing_again : (more at end : ℕ) (last : List ℕ) (p : Place) (rest : List ℕ) → IsGoodPlace more at end last p → listing_in more at end last (listing at p ++ rest) ≡ Ok (p, rest)
unfolding listing_in
listing_again more at end last p rest good =
    let key = (key_codec (is_key last None)).again p.key rest good.key in
    let len = passing_again (is_length more at end) (number_in w32) (number w32 p.len ++ (spelled w16 p.key ++ rest)) (p.len, spelled w16 p.key ++ rest) ((number_codec w32 (2 ^ 32) wide32).again p.len (spelled w16 p.key ++ rest) good.len) good.within in
    let regrouped : listing at p ++ rest ≡ number w64 at ++ (number w32 p.len ++ (spelled w16 p.key ++ rest)) = simp append_assoc in
    ap (listing_in more at end last) regrouped ∙ rw (expected_again (number w64 at) (number w32 p.len ++ (spelled w16 p.key ++ rest)), len, key) refl

pub listings_take : (count at end : ℕ) (last bytes : List ℕ) (y : List Place × List ℕ) → IsBytes bytes → listings_in count at end last bytes ≡ Ok y
    → Took bytes (listings at y.0) y.1 × ((length y.0 ≡ count) × AreGoodPlaces at end last y.0)
unfolding listings_in
listings_take zero at end last bytes y fits e =
    let made : List Place × List ℕ = ([], bytes) in
    let g = passed (eqb at end) made y (length bytes) e in
    subst (λ (z : List Place × List ℕ). Took bytes (listings at z.0) z.1 × ((length z.0 ≡ 0) × AreGoodPlaces at end last z.0)) g.1 (record { parts = refl; rest_fits = fits }, (refl, eqb-true at end g.0))
listings_take (suc more) at end last bytes y fits e =
    let a = bind_ok (listing_in more at end last bytes) (λ first. listings_in more (at + first.0.len) end first.0.key first.1 >>= λ others. Ok (first.0 ∷ others.0, others.1)) y e in
    let b = bind_ok (listings_in more (at + a.0.0.len) end a.0.0.key a.0.1) (λ others. Ok (a.0.0 ∷ others.0, others.1)) y a.2 in
    let first = listing_takes more at end last bytes a.0 fits a.1 in
    let second = listings_take more (at + a.0.0.len) end a.0.0.key a.0.1 b.0 first.0.rest_fits b.1 in
    let both = Took-then bytes (listing at a.0.0) a.0.1 (listings (at + a.0.0.len) b.0.0) b.0.1 first.0 second.0 in
    let made : List Place × List ℕ = (a.0.0 ∷ b.0.0, b.0.1) in
    let good : IsGoodPlace (length b.0.0) at end last a.0.0 = subst (λ (n : ℕ). IsGoodPlace n at end last a.0.0) (sym second.1.0) first.1 in
    subst (λ (z : List Place × List ℕ). Took bytes (listings at z.0) z.1 × ((length z.0 ≡ suc more) × AreGoodPlaces at end last z.0)) (ok_is made y b.2) (both, (ap suc second.1.0, (good, second.1.1)))

pub listings_again : (at end : ℕ) (last : List ℕ) (ps : List Place) (rest : List ℕ) → AreGoodPlaces at end last ps → listings_in (length ps) at end last (listings at ps ++ rest) ≡ Ok (ps, rest)
unfolding listings_in
listings_again at end last [] rest good = rw (eq-eqb at end good) refl
listings_again at end last (p ∷ ps) rest good =
    let regrouped : listings at (p ∷ ps) ++ rest ≡ listing at p ++ (listings (at + p.len) ps ++ rest) = append_assoc (listing at p) (listings (at + p.len) ps) rest in
    ap (listings_in (suc (length ps)) at end last) regrouped
    ∙ rw (listing_again (length ps) at end last p (listings (at + p.len) ps ++ rest) good.0, listings_again (at + p.len) end p.key ps rest good.1) refl

-- ---- the index block

magic-length : length index_magic ≡ 8
unfolding index_magic
magic-length = refl

pub index-length : (ps : List Place) → length (index ps) ≡ 16 + length (listings 0 ps)
index-length ps =
    let a = length-append (index_magic ++ number w32 (4 + length (listings 0 ps)) ++ number w32 (length ps)) (listings 0 ps) in
    let b = length-append (index_magic ++ number w32 (4 + length (listings 0 ps))) (number w32 (length ps)) in
    let c = length-append index_magic (number w32 (4 + length (listings 0 ps))) in
    omega (arith, a, b, c, magic-length, wide32.len (4 + length (listings 0 ps)), wide32.len (length ps))

index-parts : (ps : List Place) → index ps ≡ index_magic ++ (number w32 (4 + length (listings 0 ps)) ++ (number w32 (length ps) ++ listings 0 ps))
index-parts ps = simp append_assoc

pub index_takes : (blocks end : ℕ) (bytes : List ℕ) (ps : List Place) → IsBytes bytes → index_in blocks end bytes ≡ Ok ps
    → (bytes ≡ index ps) × ((length ps ≡ blocks) × AreGoodPlaces 0 end [] ps)
unfolding index_in
index_takes blocks end bytes ps fits e =
    let finish = λ (places : List Place × List ℕ). cond (eqb (length places.1) 0) (Ok places.0) (Err (length places.1)) in
    let a = bind_ok (expected_in index_magic bytes) (λ rest. expected_in (number w32 (length bytes - 12)) rest >>= λ rest. expected_in (number w32 blocks) rest >>= λ rest. listings_in blocks 0 end [] rest >>= λ places. cond (eqb (length places.1) 0) (Ok places.0) (Err (length places.1))) ps e in
    let b = bind_ok (expected_in (number w32 (length bytes - 12)) a.0) (λ rest. expected_in (number w32 blocks) rest >>= λ rest. listings_in blocks 0 end [] rest >>= λ places. cond (eqb (length places.1) 0) (Ok places.0) (Err (length places.1))) ps a.2 in
    let c = bind_ok (expected_in (number w32 blocks) b.0) (λ rest. listings_in blocks 0 end [] rest >>= λ places. cond (eqb (length places.1) 0) (Ok places.0) (Err (length places.1))) ps b.2 in
    let d = bind_ok (listings_in blocks 0 end [] c.0) (λ places. cond (eqb (length places.1) 0) (Ok places.0) (Err (length places.1))) ps c.2 in
    let g = passed (eqb (length d.0.1) 0) d.0.0 ps (length d.0.1) d.2 in
    let ta = expected_takes index_magic bytes a.0 fits a.1 in
    let tb = expected_takes (number w32 (length bytes - 12)) a.0 b.0 ta.rest_fits b.1 in
    let tc = expected_takes (number w32 blocks) b.0 c.0 tb.rest_fits c.1 in
    let td = listings_take blocks 0 end [] c.0 d.0 tc.rest_fits d.1 in
    let nothing : d.0.1 ≡ [] = nil_from_length d.0.1 (eqb-true _ _ g.0) in
    let last : c.0 ≡ listings 0 d.0.0 = td.0.parts ∙ ap (λ (x : List ℕ). listings 0 d.0.0 ++ x) nothing ∙ append-nil (listings 0 d.0.0) in
    let chain : bytes ≡ index_magic ++ (number w32 (length bytes - 12) ++ (number w32 blocks ++ listings 0 d.0.0)) =
    ta.parts ∙ ap (λ (x : List ℕ). index_magic ++ x) (tb.parts ∙ ap (λ (x : List ℕ). number w32 (length bytes - 12) ++ x) (tc.parts ∙ ap (λ (x : List ℕ). number w32 blocks ++ x) last)) in
    let len : length bytes - 12 ≡ 4 + length (listings 0 d.0.0) =
    omega (arith, ap length chain, magic-length, wide32.len (length bytes - 12), wide32.len blocks, length-append index_magic (number w32 (length bytes - 12) ++ (number w32 blocks ++ listings 0 d.0.0)), length-append (number w32 (length bytes - 12)) (number w32 blocks ++ listings 0 d.0.0), length-append (number w32 blocks) (listings 0 d.0.0)) in
    let whole : bytes ≡ index d.0.0 =
    chain ∙ ap (λ (n : ℕ). index_magic ++ (number w32 n ++ (number w32 blocks ++ listings 0 d.0.0))) len
    ∙ ap (λ (n : ℕ). index_magic ++ (number w32 (4 + length (listings 0 d.0.0)) ++ (number w32 n ++ listings 0 d.0.0))) (sym td.1.0)
    ∙ sym (index-parts d.0.0) in
    subst (λ (v : List Place). (bytes ≡ index v) × ((length v ≡ blocks) × AreGoodPlaces 0 end [] v)) g.1 (whole, td.1)

pub index_again : (end : ℕ) (ps : List Place) → AreGoodPlaces 0 end [] ps → index_in (length ps) end (index ps) ≡ Ok ps
unfolding index_in
index_again end ps good =
    let ls = listings 0 ps in
    let len : length (index ps) - 12 ≡ 4 + length ls = omega (arith, index-length ps) in
    let all : listings_in (length ps) 0 end [] ls ≡ Ok (ps, []) = ap (listings_in (length ps) 0 end []) (sym (append-nil ls)) ∙ listings_again 0 end [] ps [] good in
    let first : expected_in index_magic (index ps) ≡ Ok (number w32 (4 + length ls) ++ (number w32 (length ps) ++ ls)) = ap (expected_in index_magic) (index-parts ps) ∙ expected_again index_magic (number w32 (4 + length ls) ++ (number w32 (length ps) ++ ls)) in
    rw (first, len, expected_again (number w32 (4 + length ls)) (number w32 (length ps) ++ ls), expected_again (number w32 (length ps)) ls, all) refl
