-- A reader gives what was written, whatever follows, and what it gives was written so: for readers that are made of
-- others.
use Rattle.std.proofs.Common.{◌≡◌, ℕ, Bool, true, cond, List, ◌++◌, length, Ok, Err, refl, ap, subst, ◌∙◌, append_assoc}
use Rattle.mx_lists.proofs.Codecs.{Took, Codec, bind_ok, passed, ok_is, Took-then}
use Rattle.mx_lists.specs.Reading.{◌>>=◌, Reader, passing}
use Rattle.mx_payload.specs.Decoding.{both}

module _ {A B : Type 0} {r1 : Reader A} {s1 : A → List ℕ} {G1 : A → Type 0} {r2 : Reader B} {s2 : B → List ℕ} {G2 : B → Type 0} where
  pub both_codec : Codec r1 s1 G1 → Codec r2 s2 G2 → Codec (both r1 r2) (λ p. s1 p.0 ++ s2 p.1) (λ p. G1 p.0 × G2 p.1)
  both_codec c d = record {
    again = λ p rest good. ap (both r1 r2) (append_assoc (s1 p.0) (s2 p.1) rest) ∙ rw (c.again p.0 (s2 p.1 ++ rest) good.0, d.again p.1 rest good.1) refl;
    takes = λ bytes y bs e.
        let a = bind_ok (r1 bytes) (λ x. r2 x.1 >>= λ z. Ok ((x.0, z.0), z.1)) y e in
        let b = bind_ok (r2 a.0.1) (λ z. Ok ((a.0.0, z.0), z.1)) y a.2 in
        let t = c.takes bytes a.0 bs a.1 in
        let u = d.takes a.0.1 b.0 t.0.rest_fits b.1 in
        let made : (A × B) × List ℕ = ((a.0.0, b.0.0), b.0.1) in
        subst (λ (z : (A × B) × List ℕ). Took bytes (s1 z.0.0 ++ s2 z.0.1) z.1 × (G1 z.0.0 × G2 z.0.1)) (ok_is made y b.2) (Took-then bytes (s1 a.0.0) a.0.1 (s2 b.0.0) b.0.1 t.0 u.0, (t.1, u.1));
  }

module _ {A : Type 0} {r : Reader A} {s : A → List ℕ} {G : A → Type 0} where
  pub passing_codec : (test : A → Bool) → Codec r s G → Codec (passing test r) s (λ x. G x × (test x ≡ true))
  passing_codec test c = record {
    again = λ x rest good. let t = good.1 in rw (c.again x rest good.0, t) refl;
    takes = λ bytes y bs e.
        let a = bind_ok (r bytes) (λ x. cond (test x.0) (Ok x) (Err (length bytes))) y e in
        let g = passed (test a.0.0) a.0 y (length bytes) a.2 in
        let t = c.takes bytes a.0 bs a.1 in
        subst (λ (z : A × List ℕ). Took bytes (s z.0) z.1 × (G z.0 × (test z.0 ≡ true))) g.1 (t.0, (t.1, g.0));
  }

  -- with the rule in other words
  pub stated : (H : A → Type 0) → ((x : A) → G x → H x) → ((x : A) → H x → G x) → Codec r s G → Codec r s H
  stated H to from c = record {
    again = λ x rest good. c.again x rest (from x good);
    takes = λ bytes y bs e. let t = c.takes bytes y bs e in (t.0, to y.0 t.1);
  }
