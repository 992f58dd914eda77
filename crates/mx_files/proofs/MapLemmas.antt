-- Finite maps from texts.
use Rattle.std.proofs.Common.{◌≡◌, ◌≢◌, ℕ, Bool, true, false, cond, ◌&&◌, ◌||◌, List, [], ◌∷◌, map, Option, Some, None, refl, sym, ◌∙◌, ap, subst}
use Rattle.std.specs.Prelude.{option_map, is_some, unwrap_or, bytes_eq}
use Rattle.std.specs.Ordering.{eq_by_cmp, is_lt}
use Rattle.std.specs.Cmp.Lexicographic.{nat_list_cmp_total}
use Rattle.std.specs.FinMap as finmap
use Rattle.std.specs.FinMap.Entries.{below_all, is_sorted, same_entries}
use Rattle.std.proofs.lemmas.Map.Lookups.{exact_bytes}
use Rattle.std.proofs.lemmas.Slice.Eq.{bytes_eq-Decides}
use Rattle.mx_lists.proofs.TreeLemmas.{R, tied, entries-empty}
use lib.Dec.{T}

module _ {X Y : Type 0} (f : X → Y) where
  -- other values on the same keys
  abbrev pub revalued : List (List ℕ × X) → List (List ℕ × Y)
  revalued es = map (λ (e : List ℕ × X). (e.0, f e.1)) es

  below-revalued : (key : List ℕ) (es : List (List ℕ × X)) → below_all R key (revalued es) ≡ below_all R key es
  below-revalued key [] = refl
  below-revalued key (e ∷ es) = ap (λ (b : Bool). is_lt (R key e.0) && b) (below-revalued key es)

  pub is_sorted-revalued : (es : List (List ℕ × X)) → is_sorted R (revalued es) ≡ is_sorted R es
  is_sorted-revalued [] = refl
  is_sorted-revalued (e ∷ es) = ap (λ (b : Bool). b && is_sorted R (revalued es)) (below-revalued e.0 es) ∙ ap (λ (b : Bool). below_all R e.0 es && b) (is_sorted-revalued es)

  one_revalued : (b : Bool) (x : X) (rest : Option X) → cond b (Some (f x)) (option_map f rest) ≡ option_map f (cond b (Some x) rest)
  one_revalued true x rest = refl
  one_revalued false x rest = refl

  pub find-revalued : (q : List ℕ) (es : List (List ℕ × X)) → finmap.find R q (revalued es) ≡ option_map f (finmap.find R q es)
  find-revalued q [] = refl
  find-revalued q (e ∷ es) = ap (λ (o : Option Y). cond (eq_by_cmp R q e.0) (Some (f e.1)) o) (find-revalued q es) ∙ one_revalued (eq_by_cmp R q e.0) e.1 (finmap.find R q es)

  pub keys-revalued : (es : List (List ℕ × X)) → map (λ (e : List ℕ × Y). e.0) (revalued es) ≡ map (λ (e : List ℕ × X). e.0) es
  keys-revalued [] = refl
  keys-revalued (e ∷ es) = ap (λ (ks : List (List ℕ)). e.0 ∷ ks) (keys-revalued es)

  pub sorted-revalued : (m : finmap.FinMap R X) → T (is_sorted R (revalued (finmap.entries m)))
  sorted-revalued m = subst T (sym (is_sorted-revalued (finmap.entries m))) (finmap.entries_sorted m)

is_told : Bool → Option ℕ
is_told true = Some 0
is_told false = None

abbrev untold : {X : Type 0} → X → ℕ
untold x = 0

told : {X : Type 0} (o : Option X) → option_map untold o ≡ is_told (is_some o)
unfolding is_told
told None = refl
told (Some x) = refl

-- maps that have the same keys, whatever they have there
pub same_keys : {X Y : Type 0} (m : finmap.FinMap R X) (n : finmap.FinMap R Y) → ((q : List ℕ) → finmap.contains_key m q ≡ finmap.contains_key n q) → finmap.keys m ≡ finmap.keys n
same_keys {X} {Y} m n same =
    let found : (Z : Type 0) (l : finmap.FinMap R Z) (q : List ℕ) → finmap.find R q (revalued (untold {X = Z}) (finmap.entries l)) ≡ is_told (finmap.contains_key l q) =
    λ (Z : Type 0) (l : finmap.FinMap R Z) (q : List ℕ). find-revalued (untold {X = Z}) q (finmap.entries l) ∙ ap (λ (o : Option Z). option_map (untold {X = Z}) o) (sym (finmap.get-entries l q)) ∙ told (finmap.get l q) in
    let alike = same_entries R nat_list_cmp_total exact_bytes (revalued (untold {X = X}) (finmap.entries m)) (revalued (untold {X = Y}) (finmap.entries n))
    (sorted-revalued (untold {X = X}) m) (sorted-revalued (untold {X = Y}) n)
    (λ q. found X m q ∙ ap is_told (same q) ∙ sym (found Y n q)) in
    sym (keys-revalued (untold {X = X}) (finmap.entries m)) ∙ ap (λ (es : List (List ℕ × ℕ)). map (λ (e : List ℕ × ℕ). e.0) es) alike ∙ keys-revalued (untold {X = Y}) (finmap.entries n)

pub keys-empty : (X : Type 0) → finmap.keys (finmap.empty {X = X} {R = R}) ≡ []
keys-empty X = ap (λ (es : List (List ℕ × X)). map (λ (e : List ℕ × X). e.0) es) (entries-empty X)

module _ {X : Type 0} where
  -- the value at a key after it was put in
  pub get-insert : (m : finmap.FinMap R X) (key : List ℕ) (x : X) (q : List ℕ) → finmap.get (finmap.insert m key x) q ≡ cond (bytes_eq key q) (Some x) (finmap.get m q)
  get-insert m key x q = finmap.get-insert nat_list_cmp_total m key x q ∙ ap (λ (b : Bool). cond b (Some x) (finmap.get m q)) (tied key q)

  pub get-remove : (m : finmap.FinMap R X) (key q : List ℕ) → finmap.get (finmap.remove m key) q ≡ cond (bytes_eq key q) None (finmap.get m q)
  get-remove m key q = finmap.get-remove nat_list_cmp_total m key q ∙ ap (λ (b : Bool). cond b None (finmap.get m q)) (tied key q)

  pub get-changed : (none : X) (change : X → X) (m : finmap.FinMap R X) (key q : List ℕ) →
      finmap.get (finmap.insert m key (change (unwrap_or (finmap.get m key) none))) q ≡ cond (bytes_eq key q) (Some (change (unwrap_or (finmap.get m q) none))) (finmap.get m q)
  get-changed none change m key q = get-insert m key (change (unwrap_or (finmap.get m key) none)) q ∙ chosen (bytes_eq key q) refl
    where
      chosen : (b : Bool) → bytes_eq key q ≡ b → cond b (Some (change (unwrap_or (finmap.get m key) none))) (finmap.get m q) ≡ cond b (Some (change (unwrap_or (finmap.get m q) none))) (finmap.get m q)
      chosen true is = ap (λ (k : List ℕ). Some (change (unwrap_or (finmap.get m k) none))) ((bytes_eq-Decides key q).0 is)
      chosen false is = refl

  some_is : (b c : Bool) (x : X) (o : Option X) → is_some o ≡ c → is_some (cond b (Some x) o) ≡ (b || c)
  some_is true c x o is = refl
  some_is false c x o is = is

  pub contains-insert : (m : finmap.FinMap R X) (key : List ℕ) (x : X) (q : List ℕ) → finmap.contains_key (finmap.insert m key x) q ≡ (bytes_eq key q || finmap.contains_key m q)
  contains-insert m key x q = ap is_some (get-insert m key x q) ∙ some_is (bytes_eq key q) (finmap.contains_key m q) x (finmap.get m q) refl

  -- a map that was put into has an entry
  pub entries-insert : (m : finmap.FinMap R X) (key : List ℕ) (x : X) → finmap.entries (finmap.insert m key x) ≢ []
  entries-insert m key x none =
      let found : finmap.get (finmap.insert m key x) key ≡ Some x = get-insert m key x key ∙ ap (λ (b : Bool). cond b (Some x) (finmap.get m key)) ((bytes_eq-Decides key key).1 refl) in
      let missed : finmap.get (finmap.insert m key x) key ≡ None = finmap.get-entries (finmap.insert m key x) key ∙ ap (λ (es : List (List ℕ × X)). finmap.find R key es) none in
      absurd (cc (sym found ∙ missed))
