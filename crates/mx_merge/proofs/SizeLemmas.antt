-- The sizes that words leave.
use Rattle.std.proofs.Common.{◌≡◌, ℕ, Bool, true, false, cond, List, [], ◌∷◌, length, map, Option, Some, None, refl, sym, ◌∙◌, ap, subst, arith}
use Rattle.std.specs.Option.{option_or, option_map}
use Rattle.std.specs.List.{AllByRecursion}
use Rattle.std.specs.Ordering.{eq_by_cmp, is_eq}
use Rattle.std.specs.declared.cmp.Ordering.TheVariants.{Equal}
use Rattle.std.specs.Cmp.{tied_itself}
use Rattle.std.specs.Cmp.Lexicographic.{nat_list_cmp_total}
use Rattle.std.specs.FinMap as finmap
use Rattle.std.specs.FinMap.Entries.{find, below_all, is_sorted}
use Rattle.std.proofs.lemmas.Iterator.Adapters.{option_map_id}
use Rattle.mx_lists.proofs.Plain.{first, second, truth}
use Rattle.mx_lists.proofs.TreeLemmas.{R, same_key, same_map, find_later}
use lib.Dec.{T}
use Rattle.mx_payload.specs.declared.payload.NameWord.{NameWord}
use Rattle.mx_payload.specs.Rules.{IsText, IsLong, IsWord, AreWords, RisesFrom, plain}
use Rattle.mx_merge.specs.Shown.{SizeMap, with_word, sizes_left, words_with}
use Rattle.mx_merge.specs.Said.{AreLong}

module _ {X : Type 0} where
  -- what holds of each size that is found holds of each entry
  all_found : (P : List ℕ → X → Type 0) (es : List (List ℕ × X)) → T (is_sorted R es) → ((q : List ℕ) (v : X) → find R q es ≡ Some v → P q v) → AllByRecursion (λ e. P e.0 e.1) es
  all_found P [] sorted found = tt
  all_found P (e ∷ es) sorted found =
      let itself : R e.0 e.0 ≡ Equal = tied_itself nat_list_cmp_total e.0 in (
        found e.0 e.1 (rw itself refl),
        all_found P es (second _ _ sorted) (λ q v at. found q v (apart e es q v (is_eq (R q e.0)) refl sorted at)),
      )
    where
      apart : (e : List ℕ × X) (es : List (List ℕ × X)) (q : List ℕ) (v : X) (b : Bool) → is_eq (R q e.0) ≡ b → T (is_sorted R (e ∷ es)) → find R q es ≡ Some v → cond (is_eq (R q e.0)) (Some e.1) (find R q es) ≡ Some v
      apart e es q v false tie sorted at = rw tie at
      apart e es q v true tie sorted at = absurd (nothing_found v (sym (find_later q e es sorted tie) ∙ at))
        where
          nothing_found : (w : X) → None ≡ Some w → ⊥
          nothing_found w e = absurd cc

-- ---- a word for each entry, whose size is a function of the entry's

abbrev word_by : (ℕ → ℕ) → List ℕ × ℕ → NameWord
word_by f e = record { name = e.0; size = f e.1; deleted = false }

rising_by : (f : ℕ → ℕ) (x : List ℕ) (es : List (List ℕ × ℕ)) → T (below_all R x es) → T (is_sorted R es) → RisesFrom (Some x) (map (word_by f) es)
rising_by f x [] below sorted = tt
rising_by f x (e ∷ es) below sorted = (truth _ (first _ _ below), rising_by f e.0 es (first _ _ sorted) (second _ _ sorted))

rising_all : (f : ℕ → ℕ) (es : List (List ℕ × ℕ)) → T (is_sorted R es) → RisesFrom None (map (word_by f) es)
rising_all f [] sorted = tt
rising_all f (e ∷ es) sorted = (refl, rising_by f e.0 es (first _ _ sorted) (second _ _ sorted))

no_size : (n : ℕ) → false ≡ true → n ≡ 0
no_size n e = absurd cc

each_by : (f : ℕ → ℕ) (es : List (List ℕ × ℕ)) → AllByRecursion (λ e. IsText e.0 × IsLong (f e.1)) es → AllByRecursion IsWord (map (word_by f) es)
each_by f [] all = tt
each_by f (e ∷ es) all = (record { name = all.0.0; size = all.0.1; deleted = no_size (f e.1) }, each_by f es all.1)

words_by : (f : ℕ → ℕ) (sizes : SizeMap) → ((name : List ℕ) (size : ℕ) → finmap.get sizes name ≡ Some size → IsText name × IsLong (f size)) → IsLong (length (map (word_by f) (finmap.entries sizes))) → AreWords (map (word_by f) (finmap.entries sizes))
words_by f sizes long count = record {
  count = count;
  each = each_by f (finmap.entries sizes) (all_found (λ q v. IsText q × IsLong (f v)) (finmap.entries sizes) (finmap.entries_sorted sizes) (λ q v e. long q v (finmap.get-entries sizes q ∙ e)));
  rising = rising_all f (finmap.entries sizes) (finmap.entries_sorted sizes);
}

pub words_are : (sizes : SizeMap) → AreLong sizes → IsLong (length (words_with sizes)) → AreWords (words_with sizes)
words_are sizes long count = words_by (λ n. n) sizes long count

plain_keys : (es : List (List ℕ × ℕ)) → map plain (map (λ e. e.0) es) ≡ map (word_by (λ n. 0)) es
plain_keys [] = refl
plain_keys (e ∷ es) = ap (λ (ws : List NameWord). plain e.0 ∷ ws) (plain_keys es)

length-plain : (names : List (List ℕ)) → length (map plain names) ≡ length names
length-plain [] = refl
length-plain (n ∷ names) = let e = length-plain names in omega (arith, e)

pub names_are : (sizes : SizeMap) → AreLong sizes → IsLong (length (finmap.keys sizes)) → AreWords (map plain (finmap.keys sizes))
names_are sizes long count =
    let same : map plain (finmap.keys sizes) ≡ map (word_by (λ n. 0)) (finmap.entries sizes) = plain_keys (finmap.entries sizes) in
    let counted : IsLong (length (map plain (finmap.keys sizes))) = subst IsLong (sym (length-plain (finmap.keys sizes))) count in
    subst AreWords (sym same) (words_by (λ n. 0) sizes (λ name size e. ((long name size e).0, omega arith)) (subst (λ (ws : List NameWord). IsLong (length ws)) same counted))

-- ---- the same entries put one by one are the same map

put_by : (f : ℕ → ℕ) (q : List ℕ) (es : List (List ℕ × ℕ)) (sizes : SizeMap) → T (is_sorted R es) → finmap.get (sizes_left sizes (map (word_by f) es)) q ≡ option_or (option_map f (find R q es)) (finmap.get sizes q)
put_by f q [] sizes sorted = refl
put_by f q (e ∷ es) sizes sorted =
    put_by f q es (finmap.insert sizes e.0 (f e.1)) (second _ _ sorted)
    ∙ ap (option_or (option_map f (find R q es))) (finmap.get-insert nat_list_cmp_total sizes e.0 (f e.1) q)
    ∙ by_test (is_eq (R q e.0)) refl
  where
    by_test : (b : Bool) → is_eq (R q e.0) ≡ b → option_or (option_map f (find R q es)) (cond (is_eq (R q e.0)) (Some (f e.1)) (finmap.get sizes q)) ≡ option_or (option_map f (cond (is_eq (R q e.0)) (Some e.1) (find R q es))) (finmap.get sizes q)
    by_test true tie = rw (tie, find_later q e es sorted tie) refl
    by_test false tie = rw tie refl

or_none : (o : Option ℕ) → option_or o None ≡ o
or_none None = refl
or_none (Some x) = refl

put_again : (f : ℕ → ℕ) (sizes : SizeMap) → ((q : List ℕ) → option_map f (finmap.get sizes q) ≡ finmap.get sizes q) → sizes_left finmap.empty (map (word_by f) (finmap.entries sizes)) ≡ sizes
put_again f sizes same = same_map _ _ (λ q.
    put_by f q (finmap.entries sizes) finmap.empty (finmap.entries_sorted sizes)
    ∙ ap (option_or (option_map f (find R q (finmap.entries sizes)))) (finmap.get-empty R q)
    ∙ or_none (option_map f (find R q (finmap.entries sizes)))
    ∙ ap (option_map f) (sym (finmap.get-entries sizes q))
    ∙ same q)

pub words_again : (sizes : SizeMap) → sizes_left finmap.empty (words_with sizes) ≡ sizes
words_again sizes = put_again (λ n. n) sizes (λ q. option_map_id (finmap.get sizes q))

-- names alone have no sizes
abbrev pub AreBare : SizeMap → Type 0
AreBare sizes = (name : List ℕ) (size : ℕ) → finmap.get sizes name ≡ Some size → size ≡ 0

bare_same : (o : Option ℕ) → ((size : ℕ) → o ≡ Some size → size ≡ 0) → option_map (λ n. 0) o ≡ o
bare_same None bare = refl
bare_same (Some x) bare = ap Some (sym (bare x refl))

pub names_again : (sizes : SizeMap) → AreBare sizes → sizes_left finmap.empty (map plain (finmap.keys sizes)) ≡ sizes
names_again sizes bare =
    ap (sizes_left finmap.empty) (plain_keys (finmap.entries sizes)) ∙ put_again (λ n. 0) sizes (λ q. bare_same (finmap.get sizes q) (bare q))

-- ---- what holds of all words holds of the sizes that they leave

some_is : (x y : ℕ) → Some x ≡ Some y → x ≡ y
some_is x y e = cc

none_some : (x : ℕ) → None ≡ Some x → ⊥
none_some x e = absurd cc

module _ (P : List ℕ → ℕ → Type 0) where
  abbrev Holds : SizeMap → Type 0
  Holds sizes = (name : List ℕ) (size : ℕ) → finmap.get sizes name ≡ Some size → P name size

  inserted : (sizes : SizeMap) (k : List ℕ) (n : ℕ) → P k n → Holds sizes → Holds (finmap.insert sizes k n)
  inserted sizes k n p all name size e = by_test (eq_by_cmp R name k) refl (sym (finmap.get-insert nat_list_cmp_total sizes k n name) ∙ e)
    where
      by_test : (b : Bool) → eq_by_cmp R name k ≡ b → cond (eq_by_cmp R name k) (Some n) (finmap.get sizes name) ≡ Some size → P name size
      by_test true tie e = subst (λ (x : List ℕ). P x size) (sym (same_key name k tie)) (subst (P k) (some_is n size (rw tie at e)) p)
      by_test false tie e = all name size (rw tie at e)

  removed : (sizes : SizeMap) (k : List ℕ) → Holds sizes → Holds (finmap.remove sizes k)
  removed sizes k all name size e = by_test (eq_by_cmp R name k) refl (sym (finmap.get-remove nat_list_cmp_total sizes k name) ∙ e)
    where
      by_test : (b : Bool) → eq_by_cmp R name k ≡ b → cond (eq_by_cmp R name k) None (finmap.get sizes name) ≡ Some size → P name size
      by_test true tie e = absurd (none_some size (rw tie at e))
      by_test false tie e = all name size (rw tie at e)

  one_word : (sizes : SizeMap) (w : NameWord) (b : Bool) → P w.name w.size → Holds sizes → Holds (cond b (finmap.remove sizes w.name) (finmap.insert sizes w.name w.size))
  one_word sizes w true p all = removed sizes w.name all
  one_word sizes w false p all = inserted sizes w.name w.size p all

  pub left : (sizes : SizeMap) (words : List NameWord) → Holds sizes → AllByRecursion (λ w. P w.name w.size) words → Holds (sizes_left sizes words)
  left sizes [] all words = all
  left sizes (w ∷ ws) all words = left (with_word sizes w) ws (one_word sizes w w.deleted words.0 all) words.1

  pub none_at : Holds finmap.empty
  none_at name size e = absurd (none_some size (sym (finmap.get-empty R name) ∙ e))

rules_each : (words : List NameWord) → AllByRecursion IsWord words → AllByRecursion (λ w. IsText w.name × IsLong w.size) words
rules_each [] all = tt
rules_each (w ∷ words) all = ((all.0.name, all.0.size), rules_each words all.1)

pub long-empty : AreLong finmap.empty
long-empty = none_at (λ name size. IsText name × IsLong size)

pub long-left : (sizes : SizeMap) (words : List NameWord) → AreLong sizes → AreWords words → AreLong (sizes_left sizes words)
long-left sizes words long rules = left (λ name size. IsText name × IsLong size) sizes words long (rules_each words rules.each)

plain_each : (names : List (List ℕ)) → AllByRecursion (λ w. w.size ≡ 0) (map plain names)
plain_each [] = tt
plain_each (n ∷ names) = (refl, plain_each names)

pub bare-empty : AreBare finmap.empty
bare-empty = none_at (λ name size. size ≡ 0)

pub bare-left : (sizes : SizeMap) (names : List (List ℕ)) → AreBare sizes → AreBare (sizes_left sizes (map plain names))
bare-left sizes names bare = left (λ name size. size ≡ 0) sizes (map plain names) bare (plain_each names)
