-- Keys that are distinct, and the first one that is not.
use Rattle.std.proofs.Common.{◌≡◌, ⊎_elim, ℕ, suc, ◌+◌, ◌<◌, arith, List, [], ◌∷◌, ◌++◌, length, take, drop, get_or, Option, Some, None, refl, sym, ◌∙◌, ap, ap₂, subst}
use Rattle.std.specs.Prelude.{Contains, slice_get, bytes_eq, Bool, true, false, ◌||◌, cond}
use Rattle.std.specs.BTreeSet.{BTreeSet, contains, Updates}
use Rattle.std.specs.Cmp.Lexicographic.{slice_cmp}
use Rattle.std.specs.Ordering.{nat_cmp}
use Rattle.std.proofs.lemmas.Map.Text.{is_eq-slice_cmp}
use Rattle.std.specs.List.{cons_option, list_any}
use Rattle.std.proofs.lemmas.List.Folds.{list_any-from_Any}
use Rattle.std.proofs.lemmas.Slice.Eq.{bytes_eq-Decides}
use Rattle.std.proofs.lemmas.List.{append-nil, take_more, take-append-drop}
use Rattle.std.proofs.lemmas.List.Elements.{Contains-append_left, Contains-append_right, Contains-push, Contains-push_cases, filter_map-append}
use lib.Seq.{drop-cons}
use Rattle.std.proofs.Math.Seq.{take-append_seam}
use Rattle.mx_rows.specs.Checks.{Row, AreDistinct, IsFirstDouble, key_of, keys_of}
use Rattle.mx_rows.specs.Found.{HasKeys, IsDouble, IsMet}

here : {X : Type 0} (x : X) (xs : List X) → Contains (x ∷ xs) x
here x xs = Contains-append_left (x ∷ []) xs x (Contains-push [] x)

there : {X : Type 0} (x y : X) (xs : List X) → Contains xs y → Contains (x ∷ xs) y
there x y xs among = Contains-append_right (x ∷ []) xs y among

distinct_push : (keys : List (List ℕ)) (key : List ℕ) → AreDistinct keys → ¬ (Contains keys key) → AreDistinct (keys ++ key ∷ [])
distinct_push [] key distinct fresh = (λ (k, within, is). absurd (omega (arith, within)), tt)
distinct_push (first ∷ keys) key distinct fresh = (
  λ among. ⊎_elim (λ earlier. distinct.0 earlier) (λ same. fresh (subst (Contains (first ∷ keys)) (sym same) (here first keys))) (Contains-push_cases keys key first among),
  distinct_push keys key distinct.1 (λ among. fresh (there first key keys among)),
)

distinct_more : (keys : List (List ℕ)) (found : Option (List ℕ)) → AreDistinct keys → ((key : List ℕ) → found ≡ Some key → ¬ (Contains keys key)) → AreDistinct (keys ++ cons_option found [])
distinct_more keys None distinct fresh = subst AreDistinct (sym (append-nil keys)) distinct
distinct_more keys (Some key) distinct fresh = distinct_push keys key distinct (fresh key refl)

keys_more : (rows : List Row) (i : ℕ) (row : Row) → i < length rows → row ≡ get_or rows i row → keys_of (take (i + 1) rows) ≡ keys_of (take i rows) ++ cons_option (key_of row) []
keys_more rows i row within is =
    ap keys_of (take_more rows i row within ∙ ap (λ (r : Row). take i rows ++ r ∷ []) (sym is))
    ∙ filter_map-append key_of (take i rows) (row ∷ [])

splits : (rows : List Row) (i : ℕ) (row : Row) → i < length rows → row ≡ get_or rows i row → rows ≡ take i rows ++ row ∷ drop (suc i) rows
splits rows i row within is =
    sym (take-append-drop i rows)
    ∙ ap (λ (rest : List Row). take i rows ++ rest) (drop-cons rows i row within ∙ ap (λ (r : Row). r ∷ drop (suc i) rows) (sym is))

seam : (front : List (List ℕ)) (key : List ℕ) (behind : List (List ℕ)) → slice_get (front ++ key ∷ behind) (length front) ≡ Some key
seam [] key behind = refl
seam (first ∷ front) key behind = seam front key behind

pub first_in_file : (rows : List Row) (i : ℕ) (row : Row) (key : List ℕ) → i < length rows → row ≡ get_or rows i row → AreDistinct (keys_of (take i rows)) → IsDouble (keys_of (take i rows)) row key → IsFirstDouble (keys_of rows) key
first_in_file rows i row key within is distinct double =
    let front = keys_of (take i rows) in
    let behind = keys_of (drop (suc i) rows) in
    let all : keys_of rows ≡ front ++ key ∷ behind =
    ap keys_of (splits rows i row within is)
    ∙ filter_map-append key_of (take i rows) (row ∷ drop (suc i) rows)
    ∙ ap (λ (found : Option (List ℕ)). front ++ cons_option found behind) double.of_row in
    let up_to : front ≡ take (length front) (front ++ key ∷ behind) = sym (take-append_seam front (key ∷ behind)) in
    subst (λ (keys : List (List ℕ)). IsFirstDouble keys key) (sym all) (record {
      at = length front;
      stands = seam front key behind;
      earlier = subst (λ (keys : List (List ℕ)). Contains keys key) up_to double.earlier;
      first = subst AreDistinct up_to distinct;
    })

-- ---- the keys that were met

among : (keys : List (List ℕ)) (key : List ℕ) → list_any (λ k. bytes_eq k key) keys ≡ true → Contains keys key
among [] key is = absurd (cc is)
among (first ∷ keys) key is = at (bytes_eq first key) refl is (among keys key)
  where
    at : (b : Bool) → bytes_eq first key ≡ b → (b || list_any (λ k. bytes_eq k key) keys) ≡ true → (list_any (λ k. bytes_eq k key) keys ≡ true → Contains keys key) → Contains (first ∷ keys) key
    at true same any later = subst (Contains (first ∷ keys)) ((bytes_eq-Decides first key).0 same) (here first keys)
    at false same any later = there first key keys (later any)

not_among : (keys : List (List ℕ)) (key : List ℕ) → list_any (λ k. bytes_eq k key) keys ≡ false → ¬ (Contains keys key)
not_among keys key none (k, within, is) =
    absurd (cc (sym none ∙ list_any-from_Any (λ (k : List ℕ). bytes_eq k key) keys (k, key, within, is, (bytes_eq-Decides key key).1 refl)))

any_of_one : (b : Bool) → (b || false) ≡ cond b true false
any_of_one true = refl
any_of_one false = refl

turned : (a b c : Bool) → (a || cond b true c) ≡ cond b true (a || c)
turned true true c = refl
turned true false c = refl
turned false b c = refl

any_push : {X : Type 0} (p : X → Bool) (xs : List X) (x : X) → list_any p (xs ++ x ∷ []) ≡ cond (p x) true (list_any p xs)
any_push p [] x = any_of_one (p x)
any_push p (first ∷ xs) x = ap (λ (b : Bool). p first || b) (any_push p xs x) ∙ turned (p first) (p x) (list_any p xs)

has_more : (met after : BTreeSet (List ℕ)) (keys : List (List ℕ)) (key : List ℕ) → HasKeys met keys → Updates (slice_cmp nat_cmp) met after key true → HasKeys after (keys ++ key ∷ [])
has_more met after keys key has updates q =
    updates.0 q
    ∙ ap₂ (λ (same old : Bool). cond same true old) (is_eq-slice_cmp key q) (has q)
    ∙ sym (any_push (λ (k : List ℕ). bytes_eq k q) keys key)

pub met_first : (met after : BTreeSet (List ℕ)) (keys : List (List ℕ)) (row : Row) (key : List ℕ) → key_of row ≡ Some key → HasKeys met keys → contains (slice_cmp nat_cmp) met key ≡ false → Updates (slice_cmp nat_cmp) met after key true → IsMet after keys row
met_first met after keys row key is has none updates = record {
  fresh = λ other other_is earlier. not_among keys key (sym (has key) ∙ none) (subst (Contains keys) (same_key other other_is) earlier);
  added = subst (λ (found : Option (List ℕ)). HasKeys after (keys ++ cons_option found [])) (sym is) (has_more met after keys key has updates);
}
  where
    same_key : (other : List ℕ) → key_of row ≡ Some other → other ≡ key
    same_key other other_is = let both : Some other ≡ Some key = sym other_is ∙ is in cc

pub met_again : (met : BTreeSet (List ℕ)) (keys : List (List ℕ)) (row : Row) (key : List ℕ) → key_of row ≡ Some key → HasKeys met keys → contains (slice_cmp nat_cmp) met key ≡ true → IsDouble keys row key
met_again met keys row key is has found = record { of_row = is; earlier = among keys key (sym (has key) ∙ found) }

pub next_keys : (rows : List Row) (i : ℕ) (row : Row) (met : BTreeSet (List ℕ)) → i < length rows → row ≡ get_or rows i row → AreDistinct (keys_of (take i rows)) → IsMet met (keys_of (take i rows)) row → AreDistinct (keys_of (take (i + 1) rows)) × HasKeys met (keys_of (take (i + 1) rows))
next_keys rows i row met within is distinct new =
    let on = sym (keys_more rows i row within is) in
    (subst AreDistinct on (distinct_more (keys_of (take i rows)) (key_of row) distinct new.fresh), subst (HasKeys met) on new.added)
