-- The least and the greatest of several.
use Rattle.std.proofs.Common.{◌≡◌, ◌⊎◌, ⊎_elim, ℕ, ◌≤◌, ◌<◌, Bool, true, false, List, [], ◌∷◌, ◌++◌, Option, Some, None, refl, sym, ◌∙◌, ap, subst, arith, inl, inr}
use Rattle.std.specs.Prelude.{min, max, Contains}
use Rattle.std.proofs.lemmas.Bool.{cases_lt}
use Rattle.std.proofs.lemmas.List.Elements.{Contains-append_left, Contains-push, Contains-push_cases}
use Rattle.mx_timeline.specs.Timeline.{IsLeast, IsGreatest}
use Rattle.mx_timeline.specs.Stages.{lesser, IsUpto}

min-cases : (a b : ℕ) → (min a b ≡ a) ⊎ (min a b ≡ b)
min-cases a b = grind arith

max-cases : (a b : ℕ) → (max a b ≡ a) ⊎ (max a b ≡ b)
max-cases a b = grind arith

-- the least of what holds of one or the other
pub least-lesser : (P Q : ℕ → Type 0) (one other : Option ℕ) → IsLeast P one → IsLeast Q other → IsLeast (λ at. P at ⊎ Q at) (lesser one other)
least-lesser P Q None None p q = λ at h. ⊎_elim (λ (x : P at). p at x) (λ (y : Q at). q at y) h
least-lesser P Q None (Some b) p q = (inr q.0, λ at h. ⊎_elim (λ (x : P at). absurd (p at x)) (λ (y : Q at). q.1 at y) h)
least-lesser P Q (Some a) None p q = (inl p.0, λ at h. ⊎_elim (λ (x : P at). p.1 at x) (λ (y : Q at). absurd (q at y)) h)
least-lesser P Q (Some a) (Some b) p q = (
  ⊎_elim (λ (is : min a b ≡ a). inl (subst P (sym is) p.0)) (λ (is : min a b ≡ b). inr (subst Q (sym is) q.0)) (min-cases a b),
  λ at h. ⊎_elim (λ (x : P at). let e = p.1 at x in omega (arith, e)) (λ (y : Q at). let e = q.1 at y in omega (arith, e)) h,
)

-- the greatest of what holds of one or the other
pub greatest-max : (P Q : ℕ → Type 0) (a b : ℕ) → IsGreatest P a → IsGreatest Q b → IsGreatest (λ at. P at ⊎ Q at) (max a b)
greatest-max P Q a b p q = record {
  holds = λ some. ⊎_elim
      (λ (is : max a b ≡ a). inl (subst P (sym is) (p.holds (λ none. some (is ∙ none)))))
      (λ (is : max a b ≡ b). inr (subst Q (sym is) (q.holds (λ none. some (is ∙ none)))))
      (max-cases a b);
  above = λ at h. ⊎_elim (λ (x : P at). let e = p.above at x in omega (arith, e)) (λ (y : Q at). let e = q.above at y in omega (arith, e)) h;
}

-- the same of what means the same
pub least-as : (P Q : ℕ → Type 0) (least : Option ℕ) → ((at : ℕ) → P at → Q at) → ((at : ℕ) → Q at → P at) → IsLeast P least → IsLeast Q least
least-as P Q None to from is = λ at h. is at (from at h)
least-as P Q (Some a) to from is = (to a is.0, λ at h. is.1 at (from at h))

pub greatest-as : (P Q : ℕ → Type 0) (greatest : ℕ) → ((at : ℕ) → P at → Q at) → ((at : ℕ) → Q at → P at) → IsGreatest P greatest → IsGreatest Q greatest
greatest-as P Q greatest to from is = record { holds = λ some. to greatest (is.holds some); above = λ at h. is.above at (from at h) }

-- at most at the least one is below each
pub below-least : (P : ℕ → Type 0) (bound : Option ℕ) → IsLeast P bound → (at : ℕ) → IsUpto bound at → (other : ℕ) → P other → at ≤ other
below-least P None is at upto other h = absurd (is other h)
below-least P (Some b) is at upto other h = let e = is.1 other h in omega (arith, e, upto)

pub least-below : (P : ℕ → Type 0) (bound : Option ℕ) → IsLeast P bound → (at : ℕ) → ((other : ℕ) → P other → at ≤ other) → IsUpto bound at
least-below P None is at below = tt
least-below P (Some b) is at below = below b is.0

-- ---- one instant more

upto-cases : (bound : Option ℕ) (at : ℕ) → IsUpto bound at ⊎ (IsUpto bound at → ⊥)
upto-cases None at = inl tt
upto-cases (Some b) at = ⊎_elim (λ (lt : b < at). inr (λ le. omega (arith, le, lt))) (λ (le : at ≤ b). inl le) (cases_lt b at)

alone-least : (x : ℕ) → IsLeast (λ q. q ≡ x) (Some x)
alone-least x = (refl, λ at h. omega (arith, h))

alone-greatest : (x : ℕ) → IsGreatest (λ q. q ≡ x) x
alone-greatest x = record { holds = λ some. refl; above = λ at h. omega (arith, h) }

-- the least one that does not pass, after one more
pub least-step : (p : ℕ → Bool) (ys : List ℕ) (x : ℕ) (least new : Option ℕ) → (p x ≡ true → new ≡ least) → (p x ≡ false → new ≡ lesser least (Some x))
    → IsLeast (λ q. Contains ys q × (p q ≡ false)) least → IsLeast (λ q. Contains (ys ++ x ∷ []) q × (p q ≡ false)) new
least-step p ys x least new passed failed is = elim (p x) as (λ b. p x ≡ b → IsLeast (λ q. Contains (ys ++ x ∷ []) q × (p q ≡ false)) new) [
  | true ↦ λ px. subst (IsLeast (λ q. Contains (ys ++ x ∷ []) q × (p q ≡ false))) (sym (passed px))
      (least-as (λ q. Contains ys q × (p q ≡ false)) (λ q. Contains (ys ++ x ∷ []) q × (p q ≡ false)) least
      (λ q h. (Contains-append_left ys (x ∷ []) q h.0, h.1))
      (λ q h. ⊎_elim (λ (c : Contains ys q). (c, h.1)) (λ (same : x ≡ q). absurd (cc (px, ap p same, h.1))) (Contains-push_cases ys x q h.0))
      is)
  | false ↦ λ px. subst (IsLeast (λ q. Contains (ys ++ x ∷ []) q × (p q ≡ false))) (sym (failed px))
      (least-as (λ q. (Contains ys q × (p q ≡ false)) ⊎ (q ≡ x)) (λ q. Contains (ys ++ x ∷ []) q × (p q ≡ false)) (lesser least (Some x))
      (λ q h. ⊎_elim (λ (c : Contains ys q × (p q ≡ false)). (Contains-append_left ys (x ∷ []) q c.0, c.1)) (λ (same : q ≡ x). (subst (Contains (ys ++ x ∷ [])) (sym same) (Contains-push ys x), ap p same ∙ px)) h)
      (λ q h. ⊎_elim (λ (c : Contains ys q). inl (c, h.1)) (λ (same : x ≡ q). inr (sym same)) (Contains-push_cases ys x q h.0))
      (least-lesser (λ q. Contains ys q × (p q ≡ false)) (λ q. q ≡ x) least (Some x) is (alone-least x)))
] refl

-- the greatest one up to a bound, after one more
pub greatest-step : (bound : Option ℕ) (ys : List ℕ) (x greatest new : ℕ) → (IsUpto bound x → new ≡ max greatest x) → ((IsUpto bound x → ⊥) → new ≡ greatest)
    → IsGreatest (λ q. Contains ys q × IsUpto bound q) greatest → IsGreatest (λ q. Contains (ys ++ x ∷ []) q × IsUpto bound q) new
greatest-step bound ys x greatest new within beyond is = ⊎_elim
    (λ (upto : IsUpto bound x). subst (IsGreatest (λ q. Contains (ys ++ x ∷ []) q × IsUpto bound q)) (sym (within upto))
    (greatest-as (λ q. (Contains ys q × IsUpto bound q) ⊎ (q ≡ x)) (λ q. Contains (ys ++ x ∷ []) q × IsUpto bound q) (max greatest x)
    (λ q h. ⊎_elim (λ (c : Contains ys q × IsUpto bound q). (Contains-append_left ys (x ∷ []) q c.0, c.1)) (λ (same : q ≡ x). (subst (Contains (ys ++ x ∷ [])) (sym same) (Contains-push ys x), subst (IsUpto bound) (sym same) upto)) h)
    (λ q h. ⊎_elim (λ (c : Contains ys q). inl (c, h.1)) (λ (same : x ≡ q). inr (sym same)) (Contains-push_cases ys x q h.0))
    (greatest-max (λ q. Contains ys q × IsUpto bound q) (λ q. q ≡ x) greatest x is (alone-greatest x))))
    (λ (not : IsUpto bound x → ⊥). subst (IsGreatest (λ q. Contains (ys ++ x ∷ []) q × IsUpto bound q)) (sym (beyond not))
    (greatest-as (λ q. Contains ys q × IsUpto bound q) (λ q. Contains (ys ++ x ∷ []) q × IsUpto bound q) greatest
    (λ q h. (Contains-append_left ys (x ∷ []) q h.0, h.1))
    (λ q h. ⊎_elim (λ (c : Contains ys q). (c, h.1)) (λ (same : x ≡ q). absurd (not (subst (IsUpto bound) (sym same) h.1))) (Contains-push_cases ys x q h.0))
    is))
    (upto-cases bound x)
