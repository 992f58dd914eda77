-- The paths that a folder lists, before and after a change.
use Rattle.std.proofs.Common.{◌≡◌, ℕ, ◌+◌, arith, length, Bool, true, false, cond, List, [], ◌∷◌, Option, Some, None, IsSome, refl, sym, ◌∙◌, ap, subst, nat_eq}
use Rattle.std.specs.Prelude.{filter, Contains, All}
use Rattle.std.specs.List.{filter_map, cons_option, starts_with}
use Rattle.std.specs.Ordering.{nat_cmp, eq_by_cmp}
use Rattle.std.specs.declared.cmp.Ordering.{Ordering}
use Rattle.std.specs.declared.cmp.Ordering.TheVariants.{Less, Equal, Greater}
use Rattle.std.specs.Cmp.{eq_by_cmp_equiv}
use Rattle.std.specs.Cmp.Lexicographic.{slice_cmp, nat_list_cmp_total}
use Rattle.std.specs.FinMap as finmap
use Rattle.std.specs.FinMap.{contains_key-keys}
use Rattle.std.specs.FinMap.Entries.{put, by_order}
use Rattle.std.specs.Map.{keys_of}
use Rattle.std.proofs.lemmas.List.Elements.{All-head, All-tail, All-weaker, All-filter, filter_passes}
use Rattle.std.proofs.lemmas.Map.Views.{any-filter_same, All-from_any, Contains-from_any, list_any-from_Contains}
use Rattle.mx_store.specs.Objects.{Objects, at_path, paths_with}
use Rattle.mx_store.proofs.Paths.{same_path}

-- ---- the keys are the paths where something stands

pub keys_stand : (o : Objects) → All (λ q. IsSome (at_path o q)) (finmap.keys o)
keys_stand o = All-from_any (eq_by_cmp_equiv nat_list_cmp_total) (λ q. IsSome (at_path o q)) (finmap.keys o) (λ q among. contains_key-keys o q ∙ among)

pub in_keys : (o : Objects) (q : List ℕ) → IsSome (at_path o q) → Contains (finmap.keys o) q
in_keys o q stands = Contains-from_any same_path q (finmap.keys o) (sym (contains_key-keys o q) ∙ stands)

pub stands_from_keys : (o : Objects) (q : List ℕ) → Contains (finmap.keys o) q → IsSome (at_path o q)
stands_from_keys o q among = contains_key-keys o q ∙ list_any-from_Contains (eq_by_cmp_equiv nat_list_cmp_total) q (finmap.keys o) among

module _ {X : Type 0} (f : List ℕ → Option X) where
  -- ---- a listing, by a function that gives something at the paths that are listed

  passed : List ℕ → List ℕ → Option X
  passed prefix path = cond (starts_with nat_eq path prefix) (f path) None

  one_passed : (k : List ℕ) (ks : List (List ℕ)) (b : Bool) → filter_map f (cond b (k ∷ ks) ks) ≡ cons_option (cond b (f k) None) (filter_map f ks)
  one_passed k ks true = refl
  one_passed k ks false = refl

  both_tests : (prefix : List ℕ) (ks : List (List ℕ)) → filter_map f (filter (λ path. starts_with nat_eq path prefix) ks) ≡ filter_map (passed prefix) ks
  unfolding passed
  both_tests prefix [] = refl
  both_tests prefix (k ∷ ks) =
      one_passed k (filter (λ path. starts_with nat_eq path prefix) ks) (starts_with nat_eq k prefix)
      ∙ ap (λ xs. cons_option (cond (starts_with nat_eq k prefix) (f k) None) xs) (both_tests prefix ks)

  left_out : (k : List ℕ) (ks : List (List ℕ)) → f k ≡ None → filter_map f (k ∷ ks) ≡ filter_map f ks
  left_out k ks none = ap (λ x. cons_option x (filter_map f ks)) none

  listed_keys : List (List ℕ × List ℕ) → List X
  listed_keys es = filter_map f (keys_of es)

  put_case : (path bytes : List ℕ) (e : List ℕ × List ℕ) (es rest : List (List ℕ × List ℕ)) → f path ≡ None → (r : Ordering) → (r ≡ Equal → path ≡ e.0) → listed_keys rest ≡ listed_keys es
      → listed_keys (by_order r ((path, bytes) ∷ e ∷ es) ((e.0, bytes) ∷ es) (e ∷ rest)) ≡ listed_keys (e ∷ es)
  unfolding listed_keys
  put_case path bytes e es rest none Less same h = left_out path (e.0 ∷ keys_of es) none
  put_case path bytes e es rest none Equal same h = refl
  put_case path bytes e es rest none Greater same h = ap (λ xs. cons_option (f e.0) xs) h

  put_other : (path bytes : List ℕ) (es : List (List ℕ × List ℕ)) → f path ≡ None → listed_keys (put (slice_cmp nat_cmp) path bytes es) ≡ listed_keys es
  unfolding listed_keys
  put_other path bytes [] none = left_out path [] none
  put_other path bytes (e ∷ es) none = put_case path bytes e es (put (slice_cmp nat_cmp) path bytes es) none (slice_cmp nat_cmp path e.0)
      (finmap.slice_cmp-IsAntisymmetric finmap.nat_cmp-IsAntisymmetric path e.0) (put_other path bytes es none)

  -- a create of a path at which there is nothing to list
  pub listed_keys-other : (o : Objects) (path bytes : List ℕ) → f path ≡ None → filter_map f (finmap.keys (finmap.insert o path bytes)) ≡ filter_map f (finmap.keys o)
  unfolding listed_keys
  listed_keys-other o path bytes none = ap listed_keys (finmap.entries-insert nat_list_cmp_total o path bytes) ∙ put_other path bytes (finmap.entries o) none

none_passed : (b : Bool) → {X : Type 0} → (x : Option X) → x ≡ None → cond b x None ≡ None
none_passed true x none = none
none_passed false x none = refl

-- the same for the paths that begin with a prefix
pub listed_paths-other : {X : Type 0} (f : List ℕ → Option X) (prefix : List ℕ) (o : Objects) (path bytes : List ℕ) → f path ≡ None → filter_map f (paths_with prefix (finmap.insert o path bytes)) ≡ filter_map f (paths_with prefix o)
unfolding passed
listed_paths-other f prefix o path bytes none =
    both_tests f prefix (finmap.keys (finmap.insert o path bytes))
    ∙ listed_keys-other (passed f prefix) o path bytes (none_passed (starts_with nat_eq path prefix) (f path) none)
    ∙ sym (both_tests f prefix (finmap.keys o))

all_some : (xs : List (List ℕ)) → filter_map (λ x. Some x) xs ≡ xs
all_some [] = refl
all_some (x ∷ xs) = ap (λ ys. x ∷ ys) (all_some xs)

-- a create of a path that does not begin with the prefix
pub paths_with-other : (prefix : List ℕ) (o : Objects) (path bytes : List ℕ) → starts_with nat_eq path prefix ≡ false → paths_with prefix (finmap.insert o path bytes) ≡ paths_with prefix o
unfolding passed
paths_with-other prefix o path bytes apart =
    sym (all_some (paths_with prefix (finmap.insert o path bytes)))
    ∙ both_tests (λ x. Some x) prefix (finmap.keys (finmap.insert o path bytes))
    ∙ listed_keys-other (passed (λ x. Some x) prefix) o path bytes (ap (λ b. cond b (Some path) None) apart)
    ∙ sym (both_tests (λ x. Some x) prefix (finmap.keys o))
    ∙ all_some (paths_with prefix o)

-- two functions that agree wherever something stands
module _ {X : Type 0} (f g : List ℕ → Option X) (prefix : List ℕ) where
  one_agrees : (k : List ℕ) (ks : List (List ℕ)) (b : Bool) → (b ≡ true → f k ≡ g k) → filter_map f ks ≡ filter_map g ks → filter_map f (cond b (k ∷ ks) ks) ≡ filter_map g (cond b (k ∷ ks) ks)
  one_agrees k ks true same rest = ap (λ x. cons_option x (filter_map f ks)) (same refl) ∙ ap (λ xs. cons_option (g k) xs) rest
  one_agrees k ks false same rest = rest

  each_agrees : (ks : List (List ℕ)) → All (λ k. starts_with nat_eq k prefix ≡ true → f k ≡ g k) ks → filter_map f (filter (λ k. starts_with nat_eq k prefix) ks) ≡ filter_map g (filter (λ k. starts_with nat_eq k prefix) ks)
  each_agrees [] same = refl
  each_agrees (k ∷ ks) same = one_agrees k (filter (λ q. starts_with nat_eq q prefix) ks) (starts_with nat_eq k prefix)
      (All-head (λ q. starts_with nat_eq q prefix ≡ true → f q ≡ g q) k ks same)
      (each_agrees ks (All-tail (λ q. starts_with nat_eq q prefix ≡ true → f q ≡ g q) k ks same))

  pub listed_paths-agree : (o : Objects) → ((q : List ℕ) → IsSome (at_path o q) → starts_with nat_eq q prefix ≡ true → f q ≡ g q) → filter_map f (paths_with prefix o) ≡ filter_map g (paths_with prefix o)
  listed_paths-agree o same = each_agrees (finmap.keys o)
      (All-weaker (λ q. IsSome (at_path o q)) (λ q. starts_with nat_eq q prefix ≡ true → f q ≡ g q) (λ q stands. same q stands) (finmap.keys o) (keys_stand o))

-- ---- the paths that are listed are those that begin so and where something stands

pub paths_stand : (prefix : List ℕ) (o : Objects) → All (λ q. IsSome (at_path o q)) (paths_with prefix o)
paths_stand prefix o = All-filter (λ q. starts_with nat_eq q prefix) (λ q. IsSome (at_path o q)) (finmap.keys o) (keys_stand o)

pub paths_begin : (prefix : List ℕ) (o : Objects) → All (λ q. starts_with nat_eq q prefix ≡ true) (paths_with prefix o)
paths_begin prefix o = filter_passes (λ q. starts_with nat_eq q prefix) (finmap.keys o)

pub in_paths : (prefix : List ℕ) (o : Objects) (q : List ℕ) → IsSome (at_path o q) → starts_with nat_eq q prefix ≡ true → Contains (paths_with prefix o) q
in_paths prefix o q stands begins = Contains-from_any same_path q (paths_with prefix o)
    (any-filter_same (eq_by_cmp (slice_cmp nat_cmp) q) (λ k. starts_with nat_eq k prefix) true
    (λ k is. subst (λ (x : List ℕ). starts_with nat_eq x prefix ≡ true) (same_path q k is) begins) (finmap.keys o)
    ∙ sym (contains_key-keys o q) ∙ stands)

-- ---- new bytes where something stands

kept_case : (path bytes : List ℕ) (e : List ℕ × List ℕ) (es rest : List (List ℕ × List ℕ)) (r : Ordering) → (length rest ≡ length es → keys_of rest ≡ keys_of es)
    → length (by_order r ((path, bytes) ∷ e ∷ es) ((e.0, bytes) ∷ es) (e ∷ rest)) ≡ length (e ∷ es) → keys_of (by_order r ((path, bytes) ∷ e ∷ es) ((e.0, bytes) ∷ es) (e ∷ rest)) ≡ keys_of (e ∷ es)
kept_case path bytes e es rest Less h same = absurd (omega (arith, same))
kept_case path bytes e es rest Equal h same = refl
kept_case path bytes e es rest Greater h same = ap (λ (ks : List (List ℕ)). e.0 ∷ ks) (h (omega (arith, same)))

kept_keys : (path bytes : List ℕ) (es : List (List ℕ × List ℕ)) → length (put (slice_cmp nat_cmp) path bytes es) ≡ length es → keys_of (put (slice_cmp nat_cmp) path bytes es) ≡ keys_of es
kept_keys path bytes [] same = absurd (omega (arith, same))
kept_keys path bytes (e ∷ es) same = kept_case path bytes e es (put (slice_cmp nat_cmp) path bytes es) (slice_cmp nat_cmp path e.0) (kept_keys path bytes es) same

pub keys-standing : (o : Objects) (path bytes : List ℕ) → IsSome (at_path o path) → finmap.keys (finmap.insert o path bytes) ≡ finmap.keys o
keys-standing o path bytes stands =
    let same : finmap.len (finmap.insert o path bytes) ≡ finmap.len o = finmap.len-insert nat_list_cmp_total o path bytes ∙ ap (λ b. cond b (finmap.len o) (finmap.len o + 1)) stands in
    let size : length (put (slice_cmp nat_cmp) path bytes (finmap.entries o)) ≡ length (finmap.entries o) =
    sym (ap length (finmap.entries-insert nat_list_cmp_total o path bytes)) ∙ sym (finmap.len-entries (finmap.insert o path bytes)) ∙ same ∙ finmap.len-entries o in
    ap keys_of (finmap.entries-insert nat_list_cmp_total o path bytes) ∙ kept_keys path bytes (finmap.entries o) size

pub paths_with-standing : (prefix : List ℕ) (o : Objects) (path bytes : List ℕ) → IsSome (at_path o path) → paths_with prefix (finmap.insert o path bytes) ≡ paths_with prefix o
paths_with-standing prefix o path bytes stands = ap (λ ks. filter (λ q. starts_with nat_eq q prefix) ks) (keys-standing o path bytes stands)
