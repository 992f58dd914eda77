-- A tree seen as a finite map.
use Rattle.std.proofs.Common.{◌≡◌, ℕ, Bool, true, false, cond, ◌&&◌, List, [], ◌∷◌, Option, Some, None, Ordering, Less, Equal, Greater, refl, sym, ◌∙◌, ap, subst}
use Rattle.std.specs.BTreeMap as tree
use Rattle.std.specs.BTreeMap.{BTreeMap}
use Rattle.std.specs.Ordering.{nat_cmp, eq_by_cmp, is_lt, is_eq}
use Rattle.std.specs.Cmp.{eq_by_cmp_equiv}
use Rattle.std.specs.Prelude.{bytes_eq}
use Rattle.std.specs.Cmp.Lexicographic.{slice_cmp, nat_list_cmp_total, texts_ties}
use Rattle.std.specs.FinMap as finmap
use Rattle.std.specs.FinMap.Entries.{below_all, is_sorted}
use Rattle.std.specs.Map.{lookup, keys_of}
use Rattle.std.specs.List.{AllByRecursion}
use Rattle.std.specs.List.Sorted.{IsStrictlySortedBy}
use Rattle.std.proofs.lemmas.List.{nil_from_length}
use Rattle.std.proofs.lemmas.Map.Lookups.{exact_bytes}
use Rattle.std.proofs.lemmas.Map.Views.{tells_apart}
use Rattle.mx_lists.proofs.Plain.{both, first, second}
use lib.Dec.{T}

abbrev pub R : List ℕ → List ℕ → Ordering
R = slice_cmp nat_cmp

pub turned : (a b : List ℕ) → eq_by_cmp R a b ≡ eq_by_cmp R b a
turned a b = (eq_by_cmp_equiv nat_list_cmp_total).symm a b

pub same_key : (a b : List ℕ) → eq_by_cmp R a b ≡ true → a ≡ b
same_key = tells_apart exact_bytes

pub tied : (key q : List ℕ) → eq_by_cmp R q key ≡ bytes_eq key q
tied key q = turned q key ∙ sym (texts_ties key q)

less_only : (o : Ordering) → T (is_lt o) → is_eq o ≡ false
less_only Less h = refl
less_only Equal h = absurd h
less_only Greater h = absurd h

module _ {X : Type 0} where
  pub same_map : (m n : finmap.FinMap R X) → ((q : List ℕ) → finmap.get m q ≡ finmap.get n q) → m ≡ n
  same_map m n same = finmap.same_map nat_list_cmp_total exact_bytes m n same

  find_below : (key : List ℕ) (es : List (List ℕ × X)) → T (below_all R key es) → finmap.find R key es ≡ None
  find_below key [] h = refl
  find_below key (e ∷ es) h = ap (λ (b : Bool). cond b (Some e.1) (finmap.find R key es)) (less_only (R key e.0) (first _ _ h)) ∙ find_below key es (second (is_lt (R key e.0)) _ h)

  -- the key of the first entry is that of no other
  pub find_later : (q : List ℕ) (e : List ℕ × X) (es : List (List ℕ × X)) → T (is_sorted R (e ∷ es)) → eq_by_cmp R q e.0 ≡ true → finmap.find R q es ≡ None
  find_later q e es sorted here = ap (λ (k : List ℕ). finmap.find R k es) (same_key q e.0 here) ∙ find_below e.0 es (first _ _ sorted)

  find-lookup : (q : List ℕ) (es : List (List ℕ × X)) → finmap.find R q es ≡ lookup (tree.is_at (R q)) es
  find-lookup q [] = refl
  find-lookup q (e ∷ es) = ap (λ (o : Option X). cond (eq_by_cmp R q e.0) (Some e.1) o) (find-lookup q es)

  pub get-tree : (m : BTreeMap (List ℕ) X) (q : List ℕ) → finmap.get (finmap.from_entries {R = R} m.entries) q ≡ tree.get R m q
  get-tree m q = finmap.get-from_entries nat_list_cmp_total m.entries q ∙ find-lookup q m.entries

  pub tree-insert : (m n : BTreeMap (List ℕ) X) (k : List ℕ) (v : X) → tree.Updates R m n k (Some v) → finmap.from_entries {R = R} n.entries ≡ finmap.insert (finmap.from_entries m.entries) k v
  tree-insert m n k v updates = same_map _ _ (λ q.
      get-tree n q
      ∙ updates.0 q
      ∙ ap (λ (b : Bool). cond b (Some v) (tree.get R m q)) (turned k q)
      ∙ ap (λ (o : Option X). cond (eq_by_cmp R q k) (Some v) o) (sym (get-tree m q))
      ∙ sym (finmap.get-insert nat_list_cmp_total (finmap.from_entries m.entries) k v q))

  pub tree-remove : (m n : BTreeMap (List ℕ) X) (k : List ℕ) → tree.Updates R m n k None → finmap.from_entries {R = R} n.entries ≡ finmap.remove (finmap.from_entries m.entries) k
  tree-remove m n k updates = same_map _ _ (λ q.
      get-tree n q
      ∙ updates.0 q
      ∙ ap (λ (b : Bool). cond b None (tree.get R m q)) (turned k q)
      ∙ ap (λ (o : Option X). cond (eq_by_cmp R q k) None o) (sym (get-tree m q))
      ∙ sym (finmap.get-remove nat_list_cmp_total (finmap.from_entries m.entries) k q))

  is_below : (x : List ℕ) (es : List (List ℕ × X)) → AllByRecursion (λ y. R x y ≡ Less) (keys_of es) → T (below_all R x es)
  is_below x [] h = tt
  is_below x (e ∷ es) h = subst (λ r. T (is_lt r && below_all R x es)) (sym h.0) (is_below x es h.1)

  rises : (es : List (List ℕ × X)) → IsStrictlySortedBy R (keys_of es) → T (is_sorted R es)
  unfolding IsStrictlySortedBy
  rises [] h = tt
  rises (e ∷ es) h = both _ _ (is_below e.0 es h.0) (rises es h.1)

  pub entries-tree : (m : BTreeMap (List ℕ) X) → tree.IsOrdered R m → finmap.entries (finmap.from_entries {R = R} m.entries) ≡ m.entries
  entries-tree m ordered =
      let h = rises m.entries ordered in
      let same = same_map (finmap.from_entries m.entries) (finmap.from_sorted m.entries) (λ q. finmap.get-from_entries nat_list_cmp_total m.entries q ∙ sym (finmap.get-from_sorted R m.entries q h)) in
      ap (λ (n : finmap.FinMap R X). finmap.entries n) same ∙ finmap.entries-from_sorted R m.entries h

  pub tree-empty : (m : BTreeMap (List ℕ) X) → tree.IsEmpty m → finmap.from_entries {R = R} m.entries ≡ finmap.empty
  tree-empty m none = same_map _ _ (λ q. get-tree m q ∙ rw none (sym (finmap.get-empty R q)))

pub entries-empty : (X : Type 0) → finmap.entries (finmap.empty {X = X} {R = R}) ≡ []
entries-empty X = nil_from_length (finmap.entries (finmap.empty {X = X} {R = R})) (sym (finmap.len-entries (finmap.empty {X = X} {R = R})) ∙ finmap.len-empty R X)
