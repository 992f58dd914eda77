-- The mirror of a folder's listing.
use Rattle.std.proofs.Common.{◌≡◌, ◌≢◌, ⊎_elim, ℕ, Bool, true, false, ◌&&◌, ◌||◌, List, [], ◌∷◌, Some, None, is_some, refl, sym, ◌∙◌, ap, subst, codes, cond}
use Rattle.std.specs.Prelude.{filter, nat_le, IfOk, Result, Ok, Err}
use Rattle.std.specs.Cmp.{nat_cmp_total}
use Rattle.std.specs.List.Sorted.{IsStrictlySortedBy}
use Rattle.std.proofs.lemmas.Bool.{and_right}
use Rattle.std.proofs.lemmas.Map.Lookups.{exact_unsigned}
use Rattle.std.proofs.lemmas.Map.Views.{btree_set_contains_iff}
use Rattle.std.specs.List.{list_any}
use Rattle.std.specs.BTreeSet.{contains}
use Rattle.std.specs.Ordering.{nat_cmp, eq_by_cmp}
use Rattle.std.specs.Cmp.Lexicographic.{slice_cmp}
use Rattle.std.specs.FinMap as finmap
use Rattle.std.specs.FinMap.{contains_key-keys}
use Rattle.mx_base.specs.Objects.{IsObjectName, is_object_name, object_path}
use Rattle.mx_base.specs.declared.object_name.ObjectName.TheVariants.{Config}
use Rattle.mx_props.specs.Config.{config_text}
use Rattle.mx_store.specs.Objects.{Objects, at_path, paths_with}
use Rattle.mx_store.proofs.Paths.{cases_path, path_same, path_other}
use Rattle.mx_folder.specs.Completed.{completed_upto}
use Rattle.mx_folder.specs.Named.{object_at, commit_name, is_hidden}
use Rattle.mx_folder.proofs.CompletedLemmas.{completed_sorted}
use Rattle.mx_folder.proofs.PendingLemmas.{hidden_object}
use Rattle.mx_world.specs.declared.mirror.Mirror.{Mirror}
use Rattle.mx_groups.specs.Groups.{AreGroupsOf}
use Rattle.mx_world.specs.Mirror.{IsMirrorOf, is_commit_at, is_name_at}
use Rattle.mx_world.proofs.MirrorLemmas.{by_test, commit_of, of_commit}

any_same : (f g : List ℕ → Bool) (ks : List (List ℕ)) → ((k : List ℕ) → f k ≡ g k) → list_any f ks ≡ list_any g ks
any_same f g [] same = refl
any_same f g (k ∷ ks) same = ap (λ b. b || list_any f ks) (same k) ∙ ap (λ b. g k || b) (any_same f g ks same)

any_step : (h p x : Bool) (f : Bool) → f ≡ x → ((h && p) || f) ≡ ((h && p) || x)
any_step h p x f is = ap (λ b. (h && p) || b) is

any_filtered : (h p : List ℕ → Bool) (ks : List (List ℕ)) → list_any p (filter h ks) ≡ list_any (λ k. h k && p k) ks
any_filtered h p [] = refl
any_filtered h p (k ∷ ks) = by_head (h k) ∙ any_step (h k) (p k) (list_any (λ k. h k && p k) ks) (list_any p (filter h ks)) (any_filtered h p ks)
  where
    by_head : (b : Bool) → list_any p (cond b (k ∷ filter h ks) (filter h ks)) ≡ ((b && p k) || list_any p (filter h ks))
    by_head true = refl
    by_head false = refl

here : (h x : Bool) → ((h && (h && true)) || (h && x)) ≡ (h && true)
here true x = refl
here false x = refl

there : (h x : Bool) → ((h && (h && false)) || x) ≡ x
there true x = refl
there false x = refl

-- a hidden path is among the hidden ones exactly where it is among all
among_hidden : (q : List ℕ) (ks : List (List ℕ)) → list_any (λ k. is_hidden k && is_name_at k q) ks ≡ (is_hidden q && list_any (eq_by_cmp (slice_cmp nat_cmp) q) ks)
among_hidden q [] = sym (and_right (is_hidden q) false refl)
among_hidden q (k ∷ ks) = ap (λ b. (is_hidden k && is_name_at k q) || b) (among_hidden q ks) ∙ ⊎_elim
    (λ (same : q ≡ k).
    subst (λ (x : List ℕ). ((is_hidden x && is_name_at x q) || (is_hidden q && list_any (eq_by_cmp (slice_cmp nat_cmp) q) ks)) ≡ (is_hidden q && (eq_by_cmp (slice_cmp nat_cmp) q x || list_any (eq_by_cmp (slice_cmp nat_cmp) q) ks))) same
    (ap (λ b. (is_hidden q && (is_hidden q && b)) || (is_hidden q && list_any (eq_by_cmp (slice_cmp nat_cmp) q) ks)) (path_same q)
    ∙ here (is_hidden q) (list_any (eq_by_cmp (slice_cmp nat_cmp) q) ks)
    ∙ ap (λ b. is_hidden q && (b || list_any (eq_by_cmp (slice_cmp nat_cmp) q) ks)) (sym (path_same q))))
    (λ (other : q ≢ k).
    ap (λ b. (is_hidden k && (is_hidden k && b)) || (is_hidden q && list_any (eq_by_cmp (slice_cmp nat_cmp) q) ks)) (path_other k q (λ same. other (sym same)))
    ∙ there (is_hidden k) (is_hidden q && list_any (eq_by_cmp (slice_cmp nat_cmp) q) ks)
    ∙ ap (λ b. is_hidden q && (b || list_any (eq_by_cmp (slice_cmp nat_cmp) q) ks)) (sym (path_other q k other)))
    (cases_path q k)

module _ (o : Objects) where
  names_listed : (q : List ℕ) → list_any (λ path. is_name_at path q) (paths_with (codes ".hoodie/") o) ≡ (is_hidden q && is_some (at_path o q))
  names_listed q =
      any_filtered is_hidden (λ path. is_name_at path q) (finmap.keys o)
      ∙ among_hidden q (finmap.keys o)
      ∙ ap (λ b. is_hidden q && b) (sym (contains_key-keys o q))

  is_commit_same : (at : ℕ) → IsObjectName (commit_name at) → (k : List ℕ) → is_commit_at k at ≡ is_name_at k (object_path (commit_name at))
  is_commit_same at named k = ⊎_elim
      (λ (same : k ≡ object_path (commit_name at)).
      of_commit k at named same
      ∙ sym (subst (λ (x : List ℕ). is_name_at x (object_path (commit_name at)) ≡ true) (sym same)
      (ap (λ b. b && eq_by_cmp (slice_cmp nat_cmp) (object_path (commit_name at)) (object_path (commit_name at))) (hidden_object (commit_name at)) ∙ path_same (object_path (commit_name at)))))
      (λ (other : k ≢ object_path (commit_name at)).
      by_test (λ b. b ≡ is_name_at k (object_path (commit_name at))) (is_commit_at k at)
      (λ test. absurd (other ((commit_of k at test).1)))
      (λ test. sym (ap (λ b. is_hidden k && b) (path_other k (object_path (commit_name at)) other) ∙ and_right (is_hidden k) false refl)))
      (cases_path k (object_path (commit_name at)))

  never : (at : ℕ) (ks : List (List ℕ)) → is_object_name (commit_name at) ≡ false → list_any (λ path. is_commit_at path at) ks ≡ false
  never at [] unnamed = refl
  never at (k ∷ ks) unnamed = by_test (λ b. (b || list_any (λ path. is_commit_at path at) ks) ≡ false) (is_commit_at k at) (λ test. absurd (cc (sym unnamed ∙ (commit_of k at test).0))) (λ test. never at ks unnamed)

  commits_listed : (at : ℕ) → list_any (λ path. is_commit_at path at) (paths_with (codes ".hoodie/") o) ≡ is_some (object_at o (commit_name at))
  unfolding object_at
  commits_listed at = by_test (λ b. list_any (λ path. is_commit_at path at) (paths_with (codes ".hoodie/") o) ≡ is_some (cond b (at_path o (object_path (commit_name at))) None)) (is_object_name (commit_name at))
      (λ named.
      any_same (λ path. is_commit_at path at) (λ path. is_name_at path (object_path (commit_name at))) (paths_with (codes ".hoodie/") o) (is_commit_same at named)
      ∙ names_listed (object_path (commit_name at))
      ∙ ap (λ b. b && is_some (at_path o (object_path (commit_name at)))) (hidden_object (commit_name at)))
      (λ unnamed. never at (paths_with (codes ".hoodie/") o) unnamed)

  pub listed_mirror : (m : Mirror) (paths : List (List ℕ)) → at_path o (object_path Config) ≡ Some (config_text m.config) → paths ≡ paths_with (codes ".hoodie/") o
      → ((q : List ℕ) → contains (slice_cmp nat_cmp) m.names q ≡ list_any (λ path. is_name_at path q) paths)
      → ((at : ℕ) → contains nat_cmp m.completed at ≡ list_any (λ path. is_commit_at path at) paths) → AreGroupsOf o m.groups → IsMirrorOf o m
  listed_mirror m paths config all names completed groups = record {
    config = config;
    names = λ q. names q ∙ ap (λ (ps : List (List ℕ)). list_any (λ path. is_name_at path q) ps) all ∙ names_listed q;
    completed = λ at. completed at ∙ ap (λ (ps : List (List ℕ)). list_any (λ path. is_commit_at path at) ps) all ∙ commits_listed at;
    groups = groups;
  }

-- ---- the completed commits

pub upto_completed : {E : Type 0} (m : Mirror) (at : ℕ) (r : Result (List ℕ) E) → IfOk r (λ instants. instants ≡ filter (λ t. nat_le t at) m.completed.keys) → IfOk r (λ instants. IsStrictlySortedBy nat_cmp m.completed.keys)
    → IfOk r (λ instants. (o : Objects) → IsMirrorOf o m → instants ≡ completed_upto o at)
upto_completed m at (Err e) is sorted = tt
upto_completed m at (Ok instants) is sorted = λ o mirror. is ∙ completed_sorted o m.completed.keys sorted
    (λ t among. sym (mirror.completed t) ∙ (btree_set_contains_iff nat_cmp_total exact_unsigned m.completed t).1 among)
    (λ t done. (btree_set_contains_iff nat_cmp_total exact_unsigned m.completed t).0 (mirror.completed t ∙ done))
    at
