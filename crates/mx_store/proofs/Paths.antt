-- What stands at a path after a change.
use Rattle.std.proofs.Common.{◌≡◌, ◌≢◌, ◌⊎◌, inl, inr, ℕ, Bool, true, false, cond, List, [], ◌∷◌, ◌++◌, Option, Some, None, IsSome, refl, sym, ◌∙◌, ap}
use Rattle.std.specs.Ordering.{nat_cmp, eq_by_cmp}
use Rattle.std.specs.Cmp.Lexicographic.{slice_cmp, nat_list_cmp_total}
use Rattle.std.specs.FinMap as map
use Rattle.std.specs.FinMap.{get-empty, get-insert, get-remove}
use Rattle.std.specs.Str.{bytes_eq}
use Rattle.std.proofs.lemmas.Bool.{false_from_ne_true}
use Rattle.std.proofs.lemmas.Slice.Eq.{bytes_eq-Decides}
use Rattle.std.proofs.lemmas.Map.Text.{is_eq-slice_cmp}
use Rattle.mx_store.specs.declared.change.Change.{Change}
use Rattle.mx_store.specs.declared.change.Change.TheVariants.{Create, Put, Delete}
use Rattle.mx_store.specs.Objects.{Objects, at_path, objects_of}
use Rattle.mx_store.proofs.Journal.{objects_of-push}

-- ---- paths are the same or not

pub is_same : (q p : List ℕ) (b : Bool) → bytes_eq q p ≡ b → eq_by_cmp (slice_cmp nat_cmp) q p ≡ b
is_same q p b is = is_eq-slice_cmp q p ∙ is

pub same_path : (q p : List ℕ) → eq_by_cmp (slice_cmp nat_cmp) q p ≡ true → q ≡ p
same_path q p is = (bytes_eq-Decides q p).0 (sym (is_eq-slice_cmp q p) ∙ is)

pub path_same : (p : List ℕ) → eq_by_cmp (slice_cmp nat_cmp) p p ≡ true
path_same p = is_same p p true ((bytes_eq-Decides p p).1 refl)

pub path_other : (q p : List ℕ) → q ≢ p → eq_by_cmp (slice_cmp nat_cmp) q p ≡ false
path_other q p differ = is_same q p false (false_from_ne_true (bytes_eq q p) (λ is. differ ((bytes_eq-Decides q p).0 is)))

pub cases_path : (q p : List ℕ) → (q ≡ p) ⊎ (q ≢ p)
cases_path q p = by_test (bytes_eq q p) refl
  where
    by_test : (b : Bool) → bytes_eq q p ≡ b → (q ≡ p) ⊎ (q ≢ p)
    by_test true is = inl ((bytes_eq-Decides q p).0 is)
    by_test false is = inr (λ same. absurd (cc (sym is ∙ (bytes_eq-Decides q p).1 same)))

-- ---- over objects

pub at_nothing : (q : List ℕ) → at_path map.empty q ≡ None
at_nothing q = get-empty (slice_cmp nat_cmp) q

pub at_other : (o : Objects) (p bytes q : List ℕ) → q ≢ p → at_path (map.insert o p bytes) q ≡ at_path o q
at_other o p bytes q differ = get-insert nat_list_cmp_total o p bytes q ∙ ap (λ b. cond b (Some bytes) (at_path o q)) (path_other q p differ)

pub at_same : (o : Objects) (p bytes : List ℕ) → at_path (map.insert o p bytes) p ≡ Some bytes
at_same o p bytes = get-insert nat_list_cmp_total o p bytes p ∙ ap (λ b. cond b (Some bytes) (at_path o p)) (path_same p)

pub at_left : (o : Objects) (p q : List ℕ) → q ≢ p → at_path (map.remove o p) q ≡ at_path o q
at_left o p q differ = get-remove nat_list_cmp_total o p q ∙ ap (λ b. cond b None (at_path o q)) (path_other q p differ)

pub at_removed : (o : Objects) (p : List ℕ) → at_path (map.remove o p) p ≡ None
at_removed o p = get-remove nat_list_cmp_total o p p ∙ ap (λ b. cond b None (at_path o p)) (path_same p)

some_none : {X : Type 0} → (x : Option X) → IsSome x → x ≢ None
some_none None h e = absurd (cc h)
some_none (Some x) h e = absurd (cc e)

-- what stands is at no path of a create
pub standing_apart : (o : Objects) (path q : List ℕ) → at_path o path ≡ None → IsSome (at_path o q) → q ≢ path
standing_apart o path q absent stands is = some_none (at_path o q) stands (ap (λ (p : List ℕ). at_path o p) is ∙ absent)

-- a create leaves what stands
pub at_path-standing : (o : Objects) (path bytes q : List ℕ) → at_path o path ≡ None → IsSome (at_path o q) → at_path (map.insert o path bytes) q ≡ at_path o q
at_path-standing o path bytes q absent stands = at_other o path bytes q (standing_apart o path q absent stands)

-- ---- over journals

pub created_same : (journal : List Change) (p bytes : List ℕ) → at_path (objects_of (journal ++ Create p bytes ∷ [])) p ≡ Some bytes
created_same journal p bytes = ap (λ (o : Objects). at_path o p) (objects_of-push journal (Create p bytes)) ∙ at_same (objects_of journal) p bytes

pub created_other : (journal : List Change) (p bytes q : List ℕ) → q ≢ p → at_path (objects_of (journal ++ Create p bytes ∷ [])) q ≡ at_path (objects_of journal) q
created_other journal p bytes q differ = ap (λ (o : Objects). at_path o q) (objects_of-push journal (Create p bytes)) ∙ at_other (objects_of journal) p bytes q differ

pub put_same : (journal : List Change) (p bytes : List ℕ) → at_path (objects_of (journal ++ Put p bytes ∷ [])) p ≡ Some bytes
put_same journal p bytes = ap (λ (o : Objects). at_path o p) (objects_of-push journal (Put p bytes)) ∙ at_same (objects_of journal) p bytes

pub put_other : (journal : List Change) (p bytes q : List ℕ) → q ≢ p → at_path (objects_of (journal ++ Put p bytes ∷ [])) q ≡ at_path (objects_of journal) q
put_other journal p bytes q differ = ap (λ (o : Objects). at_path o q) (objects_of-push journal (Put p bytes)) ∙ at_other (objects_of journal) p bytes q differ

pub deleted_same : (journal : List Change) (p : List ℕ) → at_path (objects_of (journal ++ Delete p ∷ [])) p ≡ None
deleted_same journal p = ap (λ (o : Objects). at_path o p) (objects_of-push journal (Delete p)) ∙ at_removed (objects_of journal) p

pub deleted_other : (journal : List Change) (p q : List ℕ) → q ≢ p → at_path (objects_of (journal ++ Delete p ∷ [])) q ≡ at_path (objects_of journal) q
deleted_other journal p q differ = ap (λ (o : Objects). at_path o q) (objects_of-push journal (Delete p)) ∙ at_left (objects_of journal) p q differ
