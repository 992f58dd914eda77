-- The paths of a folder, in byte order.
use Rattle.std.proofs.Common.{◌≡◌, ◌≢◌, ◌⊎◌, ⊎_elim, ℕ, arith, Bool, true, false, cond, ◌&&◌, List, [], ◌∷◌, Option, Some, None, IfSome, refl, sym, ◌∙◌, ap, subst, nat_eq, Ordering, Less, Equal, Greater}
use lib.Dec.{T}
use Rattle.std.specs.Prelude.{filter, Contains, slice_get, unwrap_or}
use Rattle.std.specs.FinMap as finmap
use Rattle.std.specs.FinMap.Entries.{below_all, is_sorted}
use Rattle.std.specs.List.{starts_with, AllByRecursion}
use Rattle.std.specs.List.Sorted.{IsStrictlySortedBy}
use Rattle.std.specs.Map.{keys_of}
use Rattle.std.specs.Ordering.{nat_cmp, is_lt, ordering_reverse}
use Rattle.std.specs.Cmp.Lexicographic.{slice_cmp, nat_list_cmp_total}
use Rattle.std.proofs.lemmas.Cmp.{tied_itself}
use Rattle.std.proofs.lemmas.List.Elements.{All-contains, All-from_recursion}
use Rattle.mx_store.specs.Objects.{Objects, at_path, paths_with, objects_of}
use Rattle.mx_store.specs.declared.change.Change.{Change}
use Rattle.mx_store.proofs.Keys.{in_keys, stands_from_keys}
use Rattle.mx_folder.proofs.ElementLemmas.{among_cases, among_none}
use Rattle.mx_folder.proofs.NamedLemmas.{none_from}
use Rattle.mx_open.specs.Init.{HoldsNothing, IsFirstPath, FirstOf}

abbrev IsBefore : List ℕ → List ℕ → Type 0
IsBefore x y = slice_cmp nat_cmp x y ≡ Less

both_first : (a b : Bool) → T (a && b) → T a
both_first true b h = tt
both_first false b h = absurd h

both_second : (a b : Bool) → T (a && b) → T b
both_second true b h = h
both_second false b h = absurd h

less_from : (o : Ordering) → T (is_lt o) → o ≡ Less
less_from Less h = refl
less_from Equal h = absurd h
less_from Greater h = absurd h

below : (x : List ℕ) (es : List (List ℕ × List ℕ)) → T (below_all (slice_cmp nat_cmp) x es) → AllByRecursion (IsBefore x) (keys_of es)
below x [] h = tt
below x (e ∷ es) h = (less_from (slice_cmp nat_cmp x e.0) (both_first _ _ h), below x es (both_second (is_lt (slice_cmp nat_cmp x e.0)) _ h))

rising : (es : List (List ℕ × List ℕ)) → T (is_sorted (slice_cmp nat_cmp) es) → IsStrictlySortedBy (slice_cmp nat_cmp) (keys_of es)
unfolding IsStrictlySortedBy
rising [] h = tt
rising (e ∷ es) h = (below e.0 es (both_first _ _ h), rising es (both_second (below_all (slice_cmp nat_cmp) e.0 es) _ h))

-- the paths of a folder rise
pub keys_rise : (o : Objects) → IsStrictlySortedBy (slice_cmp nat_cmp) (finmap.keys o)
keys_rise o = rising (finmap.entries o) (finmap.entries_sorted o)

-- one is before the other, and then not the other way round
pub not_before : (x y : List ℕ) → slice_cmp nat_cmp x y ≡ Less → slice_cmp nat_cmp y x ≢ Less
not_before x y less other = absurd (cc (sym other ∙ nat_list_cmp_total.antisymm y x ∙ ap ordering_reverse less))

-- no path of a list that rises is before the first
head_first : (head other : List ℕ) (rest : List (List ℕ)) → IsStrictlySortedBy (slice_cmp nat_cmp) (head ∷ rest) → Contains (head ∷ rest) other → slice_cmp nat_cmp other head ≢ Less
unfolding IsStrictlySortedBy
head_first head other rest rises among = ⊎_elim
    (λ (same : head ≡ other). λ less. absurd (cc (sym (tied_itself nat_list_cmp_total head) ∙ ap (λ (x : List ℕ). slice_cmp nat_cmp x head) same ∙ less)))
    (λ (later : Contains rest other). not_before head other (All-contains (IsBefore head) rest other (All-from_recursion (IsBefore head) rest rises.0) later))
    (among_cases other head rest among)

-- ---- the first path

starts_nil : (path : List ℕ) → starts_with nat_eq path [] ≡ true
starts_nil [] = refl
starts_nil (x ∷ path) = refl

all_pass : (paths : List (List ℕ)) → filter (λ path. starts_with nat_eq path []) paths ≡ paths
all_pass [] = refl
all_pass (path ∷ paths) =
    ap (λ (b : Bool). cond b (path ∷ filter (λ p. starts_with nat_eq p []) paths) (filter (λ p. starts_with nat_eq p []) paths)) (starts_nil path) ∙ ap (λ (ps : List (List ℕ)). path ∷ ps) (all_pass paths)

pub all_paths : (o : Objects) → paths_with [] o ≡ finmap.keys o
all_paths o = all_pass (finmap.keys o)

no_keys : (o : Objects) → finmap.keys o ≡ [] → HoldsNothing o
no_keys o none q = none_from (at_path o q) (λ stands. among_none q (subst (λ (ks : List (List ℕ)). Contains ks q) none (in_keys o q stands)))

first_key : (o : Objects) (p : List ℕ) (ps : List (List ℕ)) → finmap.keys o ≡ p ∷ ps → IsFirstPath o p
first_key o p ps is = record {
  stands = stands_from_keys o p (subst (λ (ks : List (List ℕ)). Contains ks p) (sym is) (0, omega arith, refl));
  first = λ other stands. head_first p other ps (subst (λ (ks : List (List ℕ)). IsStrictlySortedBy (slice_cmp nat_cmp) ks) is (keys_rise o)) (subst (λ (ks : List (List ℕ)). Contains ks other) is (in_keys o other stands));
}

-- the first of all paths that are listed
pub first_of : (journal : Option (List Change)) (paths : List (List ℕ)) → IfSome journal (λ j. paths ≡ paths_with [] (objects_of j)) → (x : Option (List ℕ)) → x ≡ slice_get paths 0 → FirstOf journal x
first_of None paths told x first = tt
first_of (Some j) paths told x first = from paths (sym (told ∙ all_paths (objects_of j))) x first
  where
    from : (paths : List (List ℕ)) → finmap.keys (objects_of j) ≡ paths → (x : Option (List ℕ)) → x ≡ slice_get paths 0 → FirstOf (Some j) x
    from [] is None first = no_keys (objects_of j) is
    from [] is (Some p) first = absurd (cc first)
    from (p ∷ ps) is None first = absurd (cc first)
    from (p ∷ ps) is (Some q) first = subst (λ (r : List ℕ). IsFirstPath (objects_of j) r) (sym (ap (λ (x : Option (List ℕ)). unwrap_or x p) first)) (first_key (objects_of j) p ps is)
