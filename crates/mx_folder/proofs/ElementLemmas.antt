-- The elements of a list, by its first and by the rest.
use Rattle.std.proofs.Common.{◌≡◌, ◌⊎◌, inl, inr, ⊎_elim, zero, suc, Bool, true, false, cond, List, [], ◌∷◌, refl, sym, ◌∙◌, ap, subst, arith}
use Rattle.std.specs.Prelude.{Contains, filter}

pub among_here : {X : Type 0} (x : X) (xs : List X) → Contains (x ∷ xs) x
among_here x xs = (0, omega arith, refl)

pub among_later : {X : Type 0} (x y : X) (xs : List X) → Contains xs x → Contains (y ∷ xs) x
among_later x y xs among = (suc among.0, omega (arith, among.1), among.2)

pub among_cases : {X : Type 0} (x y : X) (xs : List X) → Contains (y ∷ xs) x → (y ≡ x) ⊎ Contains xs x
among_cases x y xs (zero, within, is) = inl is
among_cases x y xs (suc place, within, is) = inr (place, omega (arith, within), is)

pub among_none : {X : Type 0} (x : X) → Contains [] x → ⊥
among_none x among = absurd (omega (arith, among.1))

pub among_filter : {X : Type 0} (test : X → Bool) (xs : List X) (x : X) → Contains xs x → test x ≡ true → Contains (filter test xs) x
among_filter test [] x among passes = absurd (among_none x among)
among_filter {X} test (y ∷ xs) x among passes = ⊎_elim
    (λ (here : y ≡ x). subst (λ (b : Bool). Contains (cond b (y ∷ filter test xs) (filter test xs)) x) (sym (ap test here ∙ passes)) (0, omega arith, here))
    (λ (later : Contains xs x). from (test y) (among_filter test xs x later passes))
    (among_cases x y xs among)
  where
    from : (b : Bool) → Contains (filter test xs) x → Contains (cond b (y ∷ filter test xs) (filter test xs)) x
    from true further = among_later x y (filter test xs) further
    from false further = further
