-- What a fold gives does not depend on the order of elements that may change places.
use Rattle.std.proofs.Common.{◌≡◌, ◌⊎◌, inl, inr, ⊎_elim, zero, suc, arith, List, [], ◌∷◌, ◌++◌, refl, sym, ◌∙◌, ap, subst}
use Rattle.std.specs.Prelude.{Contains, fold}

-- ---- elements of a list

abbrev pub Among : {X : Type 0} → X → List X → Type 0
Among x [] = ⊥
Among x (y ∷ ys) = (x ≡ y) ⊎ Among x ys

pub among : {X : Type 0} (xs : List X) (x : X) → Contains xs x → Among x xs
among [] x (k, below, is) = absurd (omega (arith, below))
among (y ∷ ys) x (zero, below, is) = inl (sym is)
among (y ∷ ys) x (suc k, below, is) = inr (among ys x (k, omega (arith, below), is))

module _ {X : Type 0} where
  cases_middle : (z x : X) (pre post : List X) → Among z (pre ++ x ∷ post) → (z ≡ x) ⊎ Among z (pre ++ post)
  cases_middle z x [] post is = is
  cases_middle z x (y ∷ pre) post (inl same) = inr (inl same)
  cases_middle z x (y ∷ pre) post (inr more) = ⊎_elim (λ same. inl same) (λ rest. inr (inr rest)) (cases_middle z x pre post more)

  among_middle : (z x : X) (pre post : List X) → Among z (pre ++ post) → Among z (pre ++ x ∷ post)
  among_middle z x [] post is = inr is
  among_middle z x (y ∷ pre) post (inl same) = inl same
  among_middle z x (y ∷ pre) post (inr more) = inr (among_middle z x pre post more)

  record Parted (x : X) (xs : List X) : Type 0 where
    pub pre : List X
    pub post : List X
    pub is : xs ≡ pre ++ x ∷ post

  parted : (x : X) (xs : List X) → Among x xs → Parted x xs
  parted x [] never = absurd never
  parted x (y ∷ ys) (inl same) = record { pre = []; post = ys; is = ap (λ (z : X). z ∷ ys) (sym same) }
  parted x (y ∷ ys) (inr more) = let there = parted x ys more in record { pre = y ∷ there.pre; post = there.post; is = ap (λ (zs : List X). y ∷ zs) there.is }

-- ---- lists whose elements are apart from each other

module _ {X : Type 0} (Apart : X → X → Type 0) where
  abbrev pub ApartFrom : X → List X → Type 0
  ApartFrom x [] = Unit {0}
  ApartFrom x (y ∷ ys) = Apart x y × ApartFrom x ys

  abbrev pub AreApart : List X → Type 0
  AreApart [] = Unit {0}
  AreApart (x ∷ xs) = ApartFrom x xs × AreApart xs

  abbrev EachApart : List X → X → Type 0
  EachApart [] x = Unit {0}
  EachApart (y ∷ ys) x = Apart y x × EachApart ys x

  apart_among : (x z : X) (xs : List X) → ApartFrom x xs → Among z xs → Apart x z
  apart_among x z [] apart never = absurd never
  apart_among x z (y ∷ ys) apart (inl same) = subst (Apart x) (sym same) apart.0
  apart_among x z (y ∷ ys) apart (inr more) = apart_among x z ys apart.1 more

  from_middle : (y x : X) (pre post : List X) → ApartFrom y (pre ++ x ∷ post) → Apart y x
  from_middle y x [] post apart = apart.0
  from_middle y x (z ∷ pre) post apart = from_middle y x pre post apart.1

  from_others : (y x : X) (pre post : List X) → ApartFrom y (pre ++ x ∷ post) → ApartFrom y (pre ++ post)
  from_others y x [] post apart = apart.1
  from_others y x (z ∷ pre) post apart = (apart.0, from_others y x pre post apart.1)

  each_before : (x : X) (pre post : List X) → AreApart (pre ++ x ∷ post) → EachApart pre x
  each_before x [] post apart = tt
  each_before x (y ∷ pre) post apart = (from_middle y x pre post apart.0, each_before x pre post apart.1)

  without : (x : X) (pre post : List X) → AreApart (pre ++ x ∷ post) → AreApart (pre ++ post)
  without x [] post apart = apart.1
  without x (y ∷ pre) post apart = (from_others y x pre post apart.0, without x pre post apart.1)

  module _ (never : (x : X) → ¬ (Apart x x)) where
    once : (x : X) (pre post : List X) → AreApart (pre ++ x ∷ post) → ¬ (Among x (pre ++ post))
    once x [] post apart there = never x (apart_among x x post apart.0 there)
    once x (y ∷ pre) post apart (inl same) = never x (subst (λ (z : X). Apart z x) (sym same) (from_middle y x pre post apart.0))
    once x (y ∷ pre) post apart (inr more) = once x pre post apart.1 more

    -- ---- folds

    module _ {B : Type 0} (f : B → X → B) (commutes : (b : B) (x y : X) → Apart x y → f (f b x) y ≡ f (f b y) x) where
      to_front : (b : B) (x : X) (pre post : List X) → EachApart pre x → fold f b (pre ++ x ∷ post) ≡ fold f (f b x) (pre ++ post)
      to_front b x [] post apart = refl
      to_front b x (y ∷ pre) post apart = to_front (f b y) x pre post apart.1 ∙ ap (λ (c : B). fold f c (pre ++ post)) (commutes b y x apart.0)

      pub fold_same : (xs ys : List X) → AreApart xs → AreApart ys → ((z : X) → Among z xs → Among z ys) → ((z : X) → Among z ys → Among z xs) → (b : B) → fold f b xs ≡ fold f b ys
      fold_same [] [] all others into back b = refl
      fold_same [] (y ∷ ys) all others into back b = absurd (back y (inl refl))
      fold_same (x ∷ xs) ys all others into back b =
          let there = parted x ys (into x (inl refl)) in
          let apart : AreApart (there.pre ++ x ∷ there.post) = subst AreApart there.is others in
          fold_same xs (there.pre ++ there.post) all.1 (without x there.pre there.post apart)
          (λ z is. ⊎_elim (λ (same : z ≡ x). absurd (never x (apart_among x x xs all.0 (subst (λ (w : X). Among w xs) same is)))) (λ (rest : Among z (there.pre ++ there.post)). rest)
          (cases_middle z x there.pre there.post (subst (Among z) there.is (into z (inr is)))))
          (λ z is. ⊎_elim (λ (same : z ≡ x). absurd (once x there.pre there.post apart (subst (λ (w : X). Among w (there.pre ++ there.post)) same is))) (λ (rest : Among z xs). rest)
          (back z (subst (Among z) (sym there.is) (among_middle z x there.pre there.post is))))
          (f b x)
          ∙ sym (to_front b x there.pre there.post (each_before x there.pre there.post apart))
          ∙ ap (fold f b) (sym there.is)
