-- Deletes of paths in turn, and what they leave.
use Rattle.std.proofs.Common.{◌≡◌, ◌≢◌, ◌⊎◌, inl, inr, ⊎_elim, ℕ, Bool, true, false, cond, List, [], ◌∷◌, ◌++◌, None, is_some, refl, sym, ◌∙◌, ap, subst}
use Rattle.std.specs.Prelude.{Contains}
use Rattle.std.specs.FinMap as finmap
use Rattle.mx_store.specs.declared.change.Change.{Change}
use Rattle.mx_store.specs.declared.change.Change.TheVariants.{Delete}
use Rattle.mx_store.specs.Objects.{Objects, at_path, after_all}
use Rattle.mx_store.proofs.Paths.{cases_path, at_left, at_removed}
use Rattle.mx_folder.specs.Pending.{deletes}
use Rattle.mx_folder.proofs.ElementLemmas.{among_here, among_later, among_cases, among_none}
use Rattle.mx_folder.proofs.NamedLemmas.{none_from}

-- ---- deletes of two lists

pub deletes-append : (o : Objects) (xs ys : List (List ℕ)) → deletes o (xs ++ ys) ≡ deletes o xs ++ deletes (after_all o (deletes o xs)) ys
deletes-append o [] ys = refl
deletes-append o (x ∷ xs) ys = step (is_some (at_path o x)) (deletes-append (finmap.remove o x) xs ys) (deletes-append o xs ys)
  where
    step : (b : Bool) → deletes (finmap.remove o x) (xs ++ ys) ≡ deletes (finmap.remove o x) xs ++ deletes (after_all (finmap.remove o x) (deletes (finmap.remove o x) xs)) ys
        → deletes o (xs ++ ys) ≡ deletes o xs ++ deletes (after_all o (deletes o xs)) ys
        → cond b (Delete x ∷ deletes (finmap.remove o x) (xs ++ ys)) (deletes o (xs ++ ys))
        ≡ cond b (Delete x ∷ deletes (finmap.remove o x) xs) (deletes o xs) ++ deletes (after_all o (cond b (Delete x ∷ deletes (finmap.remove o x) xs) (deletes o xs))) ys
    step true gone kept = ap (λ (l : List Change). Delete x ∷ l) gone
    step false gone kept = kept

-- ---- what stands after deletes

pub removed_none : (o : Objects) (x q : List ℕ) → at_path o q ≡ None → at_path (finmap.remove o x) q ≡ None
removed_none o x q none = ⊎_elim (λ (same : q ≡ x). ap (at_path (finmap.remove o x)) same ∙ at_removed o x) (λ (other : q ≢ x). at_left o x q other ∙ none) (cases_path q x)

pub deletes_none : (o : Objects) (paths : List (List ℕ)) (q : List ℕ) → at_path o q ≡ None → at_path (after_all o (deletes o paths)) q ≡ None
deletes_none o [] q none = none
deletes_none o (x ∷ xs) q none = step (is_some (at_path o x)) (deletes_none (finmap.remove o x) xs q (removed_none o x q none)) (deletes_none o xs q none)
  where
    step : (b : Bool) → at_path (after_all (finmap.remove o x) (deletes (finmap.remove o x) xs)) q ≡ None → at_path (after_all o (deletes o xs)) q ≡ None
        → at_path (after_all o (cond b (Delete x ∷ deletes (finmap.remove o x) xs) (deletes o xs))) q ≡ None
    step true gone kept = gone
    step false gone kept = kept

-- what is not deleted stays
pub deletes_left : (o : Objects) (paths : List (List ℕ)) (q : List ℕ) → (Contains paths q → ⊥) → at_path (after_all o (deletes o paths)) q ≡ at_path o q
deletes_left o [] q out = refl
deletes_left o (x ∷ xs) q out =
    let later : Contains xs q → ⊥ = λ c. out (among_later q x xs c) in
    let other : q ≢ x = λ same. out (subst (λ (y : List ℕ). Contains (x ∷ xs) y) (sym same) (among_here x xs)) in
    step (is_some (at_path o x)) (deletes_left (finmap.remove o x) xs q later ∙ at_left o x q other) (deletes_left o xs q later)
  where
    step : (b : Bool) → at_path (after_all (finmap.remove o x) (deletes (finmap.remove o x) xs)) q ≡ at_path o q → at_path (after_all o (deletes o xs)) q ≡ at_path o q
        → at_path (after_all o (cond b (Delete x ∷ deletes (finmap.remove o x) xs) (deletes o xs))) q ≡ at_path o q
    step true gone kept = gone
    step false gone kept = kept

-- what is deleted is gone
pub deletes_gone : (o : Objects) (paths : List (List ℕ)) (q : List ℕ) → Contains paths q → at_path (after_all o (deletes o paths)) q ≡ None
deletes_gone o [] q c = absurd (among_none q c)
deletes_gone o (x ∷ xs) q c = step (is_some (at_path o x)) refl (among_cases q x xs c) (deletes_gone (finmap.remove o x) xs q) (deletes_gone o xs q)
  where
    step : (b : Bool) → is_some (at_path o x) ≡ b → (x ≡ q) ⊎ Contains xs q → (Contains xs q → at_path (after_all (finmap.remove o x) (deletes (finmap.remove o x) xs)) q ≡ None) → (Contains xs q → at_path (after_all o (deletes o xs)) q ≡ None)
        → at_path (after_all o (cond b (Delete x ∷ deletes (finmap.remove o x) xs) (deletes o xs))) q ≡ None
    step true is (inl here) gone kept = deletes_none (finmap.remove o x) xs q (ap (at_path (finmap.remove o x)) (sym here) ∙ at_removed o x)
    step true is (inr there) gone kept = gone there
    step false is (inl here) gone kept = deletes_none o xs q (ap (at_path o) (sym here) ∙ none_from (at_path o x) (λ stands. absurd (cc (sym is ∙ stands))))
    step false is (inr there) gone kept = kept there
