-- A mirror, before and after a change of one object.
use Rattle.std.proofs.Common.{◌≡◌, ◌≢◌, ⊎_elim, cond, [], ℕ, Bool, true, false, not, ◌&&◌, ◌||◌, List, Option, Some, None, is_some, refl, sym, ◌∙◌, ap, subst}
use Rattle.std.specs.Option.{option_map_or}
use Rattle.std.specs.Prelude.{Result, Ok, Err, OnOk, OnErr}
use Rattle.std.specs.Result.{is_ok, is_err}
use Rattle.std.specs.BTreeSet.{BTreeSet, contains}
use Rattle.std.specs.Ordering.{nat_cmp, eq_by_cmp}
use Rattle.std.specs.Cmp.{nat_cmp_total, eq_by_cmp_equiv}
use Rattle.std.specs.Cmp.Lexicographic.{slice_cmp}
use Rattle.std.specs.FinMap as finmap
use Rattle.std.proofs.lemmas.Bool.{and_right}
use Rattle.std.proofs.lemmas.Map.Lookups.{exact_unsigned}
use Rattle.std.proofs.lemmas.Map.Views.{tells_apart}
use Rattle.mx_base.specs.Objects.{IsObjectName, object_path}
use Rattle.mx_base.specs.Paths.{commit_instant}
use Rattle.mx_base.specs.declared.object_name.ObjectName.TheVariants.{Config}
use Rattle.mx_props.specs.Config.{config_text}
use Rattle.mx_store.specs.Objects.{Objects, at_path}
use Rattle.mx_store.proofs.Paths.{cases_path, path_same, path_other, at_other, at_same, at_left, at_removed}
use Rattle.mx_folder.specs.Named.{object_at, commit_name, is_hidden}
use Rattle.mx_folder.proofs.NamedLemmas.{object_at-same, object_at-is, object_at-none, path_of_commit, commit_of_path}
use Rattle.mx_groups.specs.Groups.{AreGroupsOf}
use Rattle.mx_groups.proofs.NoteLemmas.{groups_same}
use Rattle.mx_world.specs.declared.mirror.Mirror.{Mirror}
use Rattle.mx_world.specs.Mirror.{IsMirrorOf, IsNoConfig, is_commit_at, is_name_at}

-- ---- which commit a path is of

pub same_number : (a b : ℕ) → eq_by_cmp nat_cmp a b ≡ true → a ≡ b
same_number a b is = tells_apart exact_unsigned a b is

pub number_same : (a : ℕ) → eq_by_cmp nat_cmp a a ≡ true
number_same a = (eq_by_cmp_equiv nat_cmp_total).refl a

is_of : (path : List ℕ) (at : ℕ) (found : Option ℕ) → commit_instant path ≡ found → option_map_or (λ other. eq_by_cmp nat_cmp other at) found false ≡ true → commit_instant path ≡ Some at
is_of path at None is test = absurd (cc test)
is_of path at (Some n) is test = is ∙ ap (λ (x : ℕ). Some x) (same_number n at test)

pub commit_of : (path : List ℕ) (at : ℕ) → is_commit_at path at ≡ true → IsObjectName (commit_name at) × (path ≡ object_path (commit_name at))
commit_of path at test = path_of_commit path at (is_of path at (commit_instant path) refl test)

pub of_commit : (path : List ℕ) (at : ℕ) → IsObjectName (commit_name at) → path ≡ object_path (commit_name at) → is_commit_at path at ≡ true
of_commit path at named is = ap (λ (x : Option ℕ). option_map_or (λ other. eq_by_cmp nat_cmp other at) x false) (commit_of_path path at named is) ∙ number_same at

-- ---- by cases of a test

pub by_test : (P : Bool → Type 0) (b : Bool) → (b ≡ true → P true) → (b ≡ false → P false) → P b
by_test P true when unless = when refl
by_test P false when unless = unless refl

swapped : (a b : Bool) → (a || b) ≡ (b || a)
swapped true true = refl
swapped true false = refl
swapped false true = refl
swapped false false = refl

-- what was added is taken back
added_and_left : (c x : Bool) → (c ≡ true → x ≡ false) → (not c && (c || x)) ≡ x
added_and_left true x h = sym (h refl)
added_and_left false x h = refl

never_true : (b : Bool) → b ≡ false → b ≡ true → ⊥
never_true b low high = absurd (cc (sym low ∙ high))

module _ (o : Objects) (path bytes : List ℕ) where
  other_commit : (at : ℕ) → is_commit_at path at ≡ false → IsObjectName (commit_name at) → object_path (commit_name at) ≢ path
  other_commit at test named same = never_true (is_commit_at path at) test (of_commit path at named (sym same))

  commits_made : (at : ℕ) → (is_commit_at path at || is_some (object_at o (commit_name at))) ≡ is_some (object_at (finmap.insert o path bytes) (commit_name at))
  commits_made at = by_test (λ b. (b || is_some (object_at o (commit_name at))) ≡ is_some (object_at (finmap.insert o path bytes) (commit_name at))) (is_commit_at path at)
      (λ test.
      let found = commit_of path at test in
      sym (ap is_some (object_at-is (finmap.insert o path bytes) (commit_name at) found.0 ∙ ap (at_path (finmap.insert o path bytes)) (sym found.1) ∙ at_same o path bytes)))
      (λ test. sym (ap is_some (object_at-same o (finmap.insert o path bytes) (commit_name at) (λ named. at_other o path bytes _ (other_commit at test named)))))

  commits_left : (at : ℕ) → (not (is_commit_at path at) && is_some (object_at o (commit_name at))) ≡ is_some (object_at (finmap.remove o path) (commit_name at))
  commits_left at = by_test (λ b. (not b && is_some (object_at o (commit_name at))) ≡ is_some (object_at (finmap.remove o path) (commit_name at))) (is_commit_at path at)
      (λ test.
      let found = commit_of path at test in
      sym (ap is_some (object_at-none (finmap.remove o path) (commit_name at) (ap (at_path (finmap.remove o path)) (sym found.1) ∙ at_removed o path))))
      (λ test. sym (ap is_some (object_at-same o (finmap.remove o path) (commit_name at) (λ named. at_left o path _ (other_commit at test named)))))

  with_true : (h x : Bool) → ((h && true) || (h && x)) ≡ (h && true)
  with_true true x = refl
  with_true false x = refl

  with_false : (h x : Bool) → ((h && false) || x) ≡ x
  with_false true x = refl
  with_false false x = refl

  names_made : (q : List ℕ) → (is_name_at path q || (is_hidden q && is_some (at_path o q))) ≡ (is_hidden q && is_some (at_path (finmap.insert o path bytes) q))
  names_made q = ⊎_elim
      (λ (same : q ≡ path). subst (λ (x : List ℕ). (is_name_at path x || (is_hidden x && is_some (at_path o x))) ≡ (is_hidden x && is_some (at_path (finmap.insert o path bytes) x))) (sym same)
      (ap (λ b. (is_hidden path && b) || (is_hidden path && is_some (at_path o path))) (path_same path)
      ∙ with_true (is_hidden path) (is_some (at_path o path))
      ∙ ap (λ (x : Option (List ℕ)). is_hidden path && is_some x) (sym (at_same o path bytes))))
      (λ (other : q ≢ path).
      ap (λ b. (is_hidden path && b) || (is_hidden q && is_some (at_path o q))) (path_other path q (λ same. other (sym same)))
      ∙ with_false (is_hidden path) (is_hidden q && is_some (at_path o q))
      ∙ ap (λ (x : Option (List ℕ)). is_hidden q && is_some x) (sym (at_other o path bytes q other)))
      (cases_path q path)

  pub made_mirror : (old new : Mirror) → new.config ≡ old.config
      → ((at : ℕ) → contains nat_cmp new.completed at ≡ (contains nat_cmp old.completed at || is_commit_at path at))
      → ((q : List ℕ) → contains (slice_cmp nat_cmp) new.names q ≡ (contains (slice_cmp nat_cmp) old.names q || is_name_at path q))
      → IsNoConfig path → IsMirrorOf o old → AreGroupsOf (finmap.insert o path bytes) new.groups → IsMirrorOf (finmap.insert o path bytes) new
  made_mirror old new config completed names apart is groups = record {
    config = at_other o path bytes (object_path Config) (λ same. apart (sym same)) ∙ is.config ∙ ap (λ c. Some (config_text c)) (sym config);
    names = λ q. names q ∙ ap (λ b. b || is_name_at path q) (is.names q) ∙ swapped _ (is_name_at path q) ∙ names_made q;
    completed = λ at. completed at ∙ ap (λ b. b || is_commit_at path at) (is.completed at) ∙ swapped _ (is_commit_at path at) ∙ commits_made at;
    groups = groups;
  }

-- a mirror of folders that hold the same
pub mirror_same : (o n : Objects) (m : Mirror) → ((q : List ℕ) → at_path n q ≡ at_path o q) → IsMirrorOf o m → IsMirrorOf n m
mirror_same o n m same is = record {
  config = same (object_path Config) ∙ is.config;
  names = λ q. is.names q ∙ ap (λ (x : Option (List ℕ)). is_hidden q && is_some x) (sym (same q));
  completed = λ at. is.completed at ∙ ap is_some (sym (object_at-same o n (commit_name at) (λ named. same (object_path (commit_name at)))));
  groups = groups_same o n m.groups same is.groups;
}

-- what came and went again
pub back_same : (o : Objects) (path bytes : List ℕ) → at_path o path ≡ None → (q : List ℕ) → at_path o q ≡ at_path (finmap.remove (finmap.insert o path bytes) path) q
back_same o path bytes absent q = ⊎_elim
    (λ (same : q ≡ path). ap (at_path o) same ∙ absent ∙ sym (ap (at_path (finmap.remove (finmap.insert o path bytes) path)) same ∙ at_removed (finmap.insert o path bytes) path))
    (λ (other : q ≢ path). sym (at_left (finmap.insert o path bytes) path q other ∙ at_other o path bytes q other))
    (cases_path q path)

cond_and : (b x : Bool) → cond b false x ≡ (not b && x)
cond_and true x = refl
cond_and false x = refl

module _ (o : Objects) (path : List ℕ) where
  names_left : (q : List ℕ) → (not (eq_by_cmp (slice_cmp nat_cmp) path q) && (is_hidden q && is_some (at_path o q))) ≡ (is_hidden q && is_some (at_path (finmap.remove o path) q))
  names_left q = ⊎_elim
      (λ (same : q ≡ path). subst (λ (x : List ℕ). (not (eq_by_cmp (slice_cmp nat_cmp) path x) && (is_hidden x && is_some (at_path o x))) ≡ (is_hidden x && is_some (at_path (finmap.remove o path) x))) (sym same)
      (ap (λ b. not b && (is_hidden path && is_some (at_path o path))) (path_same path)
      ∙ sym (ap (λ (x : Option (List ℕ)). is_hidden path && is_some x) (at_removed o path) ∙ and_right (is_hidden path) false refl)))
      (λ (other : q ≢ path).
      ap (λ b. not b && (is_hidden q && is_some (at_path o q))) (path_other path q (λ same. other (sym same)))
      ∙ ap (λ (x : Option (List ℕ)). is_hidden q && is_some x) (sym (at_left o path q other)))
      (cases_path q path)

  pub left_mirror : (old new : Mirror) → new.config ≡ old.config
      → ((at : ℕ) → contains nat_cmp new.completed at ≡ (not (is_commit_at path at) && contains nat_cmp old.completed at))
      → ((q : List ℕ) → contains (slice_cmp nat_cmp) new.names q ≡ cond (eq_by_cmp (slice_cmp nat_cmp) path q) false (contains (slice_cmp nat_cmp) old.names q))
      → IsNoConfig path → IsMirrorOf o old → AreGroupsOf (finmap.remove o path) new.groups → IsMirrorOf (finmap.remove o path) new
  left_mirror old new config completed names apart is groups = record {
    config = at_left o path (object_path Config) (λ same. apart (sym same)) ∙ is.config ∙ ap (λ c. Some (config_text c)) (sym config);
    names = λ q. names q ∙ cond_and (eq_by_cmp (slice_cmp nat_cmp) path q) _ ∙ ap (λ b. not (eq_by_cmp (slice_cmp nat_cmp) path q) && b) (is.names q) ∙ names_left q;
    completed = λ at. completed at ∙ ap (λ b. not (is_commit_at path at) && b) (is.completed at) ∙ commits_left o path [] at;
    groups = groups;
  }

  no_commit_there : at_path o path ≡ None → (at : ℕ) → is_commit_at path at ≡ true → is_some (object_at o (commit_name at)) ≡ false
  no_commit_there absent at test = let found = commit_of path at test in ap is_some (object_at-none o (commit_name at) (ap (at_path o) (sym found.1) ∙ absent))

  pub same_mirror : (old new : Mirror) → new.config ≡ old.config → at_path o path ≡ None
      → ((at : ℕ) → (is_commit_at path at ≡ true → contains nat_cmp old.completed at ≡ false) → contains nat_cmp new.completed at ≡ contains nat_cmp old.completed at)
      → ((q : List ℕ) → contains (slice_cmp nat_cmp) new.names q ≡ contains (slice_cmp nat_cmp) old.names q)
      → IsMirrorOf o old → AreGroupsOf o new.groups → IsMirrorOf o new
  same_mirror old new config absent completed names is groups = record {
    config = is.config ∙ ap (λ c. Some (config_text c)) (sym config);
    names = λ q. names q ∙ is.names q;
    completed = λ at. completed at (λ test. is.completed at ∙ no_commit_there absent at test) ∙ is.completed at;
    groups = groups;
  }

-- the commits as they were, once one was taken back
pub commits_back : (old during new : BTreeSet ℕ) (path : List ℕ)
    → ((at : ℕ) → contains nat_cmp during at ≡ (contains nat_cmp old at || is_commit_at path at))
    → ((at : ℕ) → contains nat_cmp new at ≡ (not (is_commit_at path at) && contains nat_cmp during at))
    → (at : ℕ) → (is_commit_at path at ≡ true → contains nat_cmp old at ≡ false) → contains nat_cmp new at ≡ contains nat_cmp old at
commits_back old during new path more less at absent =
    less at
    ∙ ap (λ b. not (is_commit_at path at) && b) (more at ∙ swapped (contains nat_cmp old at) (is_commit_at path at))
    ∙ added_and_left (is_commit_at path at) (contains nat_cmp old at) absent

-- ---- what a call says once it is known how it ended

pub where_ok : {T E A : Type 0} (r : Result T E) → true ≡ is_ok r → OnOk r A → A
where_ok (Ok x) is said = said
where_ok (Err e) is said = absurd (cc is)

pub where_err : {T E A : Type 0} (r : Result T E) → true ≡ is_err r → OnErr r A → A
where_err (Ok x) is said = absurd (cc is)
where_err (Err e) is said = said
