-- The groups of commits, before and after an object comes or goes.
use Rattle.std.proofs.Common.{◌≡◌, ◌≢◌, ⊎_elim, ℕ, true, false, cond, List, [], Option, Some, None, refl, sym, ◌∙◌, ap}
use Rattle.std.specs.Prelude.{nat_eq, option_and_then, option_map}
use Rattle.std.specs.FinMap as finmap
use Rattle.std.specs.Option.{option_map_or}
use Rattle.std.proofs.lemmas.Bool.Decides.{eqb_tells}
use Rattle.std.proofs.lemmas.Option.{same_Some}
use Rattle.mx_base.specs.Objects.{object_path}
use Rattle.mx_base.specs.Paths.{commit_instant}
use Rattle.mx_meta.specs.CommitText.{commit_meta_of}
use Rattle.mx_meta.specs.declared.commit_meta.CommitMeta.{CommitMeta}
use Rattle.mx_model.specs.declared.action.Action.{Action}
use Rattle.mx_model.specs.Timeline.{action_of}
use Rattle.mx_store.specs.Objects.{Objects, at_path}
use Rattle.mx_store.proofs.Paths.{at_other, at_same, at_left, at_removed}
use Rattle.mx_folder.specs.Actions.{action_at}
use Rattle.mx_folder.specs.Named.{object_at, commit_name}
use Rattle.mx_folder.proofs.ActionLemmas.{action_at-same, action_at-none}
use Rattle.mx_folder.proofs.NamedLemmas.{object_at-same, object_at-is, object_at-none, path_of_commit, path_of_another}
use Rattle.mx_groups.specs.declared.groups.Groups.{Groups}
use Rattle.mx_groups.specs.Groups.{groups_of, groups_in, groups_at, held_at, AreGroupsOf}

-- ---- the groups of one commit

abbrev listed_in : Option Action → List (List ℕ)
listed_in action = option_map_or (λ (a : Action). groups_of a.meta) action []

listed_action : (at : ℕ) (meta : Option CommitMeta) → listed_in (option_map (λ (m : CommitMeta). record { at = at; meta = m }) meta) ≡ option_map_or groups_of meta []
listed_action at None = refl
listed_action at (Some meta) = refl

groups_at-is : (o : Objects) (at : ℕ) (bytes : List ℕ) → object_at o (commit_name at) ≡ Some bytes → groups_at o at ≡ groups_in bytes
unfolding action_at
groups_at-is o at bytes stands = ap (λ (x : Option (List ℕ)). listed_in (option_and_then (action_of at) x)) stands ∙ listed_action at (commit_meta_of bytes)

groups_at-none : (o : Objects) (at : ℕ) → object_at o (commit_name at) ≡ None → groups_at o at ≡ []
groups_at-none o at absent = ap listed_in (action_at-none o at absent)

pub groups_at-same : (o n : Objects) (at : ℕ) → object_at n (commit_name at) ≡ object_at o (commit_name at) → groups_at n at ≡ groups_at o at
groups_at-same o n at same = ap listed_in (action_at-same o n at same)

-- of folders that hold the same
pub groups_same : (o n : Objects) (groups : Groups) → ((q : List ℕ) → at_path n q ≡ at_path o q) → AreGroupsOf o groups → AreGroupsOf n groups
groups_same o n groups same are at = are at ∙ sym (groups_at-same o n at (object_at-same o n (commit_name at) (λ named. same (object_path (commit_name at)))))

module _ (o : Objects) (path : List ℕ) (old new : Groups) (are : AreGroupsOf o old) where
  -- ---- an object comes

  pub noted_none : (bytes : List ℕ) → commit_instant path ≡ None → AreGroupsOf (finmap.insert o path bytes) old
  noted_none bytes none q =
      are q
      ∙ sym (groups_at-same o (finmap.insert o path bytes) q (object_at-same o (finmap.insert o path bytes) (commit_name q) (λ named. at_other o path bytes (object_path (commit_name q)) (path_of_another path q None none (λ same. absurd (cc same)) named))))

  pub noted_commit : (bytes : List ℕ) (at : ℕ) → commit_instant path ≡ Some at → ((q : ℕ) → held_at new q ≡ cond (nat_eq q at) (groups_in bytes) (held_at old q)) → AreGroupsOf (finmap.insert o path bytes) new
  noted_commit bytes at is held q = ⊎_elim
      (λ (here : (nat_eq q at ≡ true) × (q ≡ at)).
      let found = path_of_commit path at is in
      held q
      ∙ ap (λ b. cond b (groups_in bytes) (held_at old q)) here.0
      ∙ sym (groups_at-is (finmap.insert o path bytes) at bytes (object_at-is (finmap.insert o path bytes) (commit_name at) found.0 ∙ ap (at_path (finmap.insert o path bytes)) (sym found.1) ∙ at_same o path bytes))
      ∙ ap (groups_at (finmap.insert o path bytes)) (sym here.1))
      (λ (there : (nat_eq q at ≡ false) × (q ≢ at)).
      held q
      ∙ ap (λ b. cond b (groups_in bytes) (held_at old q)) there.0
      ∙ are q
      ∙ sym (groups_at-same o (finmap.insert o path bytes) q (object_at-same o (finmap.insert o path bytes) (commit_name q) (λ named. at_other o path bytes (object_path (commit_name q)) (path_of_another path q (Some at) is (λ same. there.1 (sym (same_Some at q same))) named)))))
      (eqb_tells q at)

  -- ---- an object goes

  pub forgotten_none : commit_instant path ≡ None → AreGroupsOf (finmap.remove o path) old
  forgotten_none none q =
      are q
      ∙ sym (groups_at-same o (finmap.remove o path) q (object_at-same o (finmap.remove o path) (commit_name q) (λ named. at_left o path (object_path (commit_name q)) (path_of_another path q None none (λ same. absurd (cc same)) named))))

  pub forgotten_commit : (at : ℕ) → commit_instant path ≡ Some at → ((q : ℕ) → held_at new q ≡ cond (nat_eq q at) [] (held_at old q)) → AreGroupsOf (finmap.remove o path) new
  forgotten_commit at is held q = ⊎_elim
      (λ (here : (nat_eq q at ≡ true) × (q ≡ at)).
      let found = path_of_commit path at is in
      held q
      ∙ ap (λ b. cond b [] (held_at old q)) here.0
      ∙ sym (groups_at-none (finmap.remove o path) at (object_at-none (finmap.remove o path) (commit_name at) (ap (at_path (finmap.remove o path)) (sym found.1) ∙ at_removed o path)))
      ∙ ap (groups_at (finmap.remove o path)) (sym here.1))
      (λ (there : (nat_eq q at ≡ false) × (q ≢ at)).
      held q
      ∙ ap (λ b. cond b [] (held_at old q)) there.0
      ∙ are q
      ∙ sym (groups_at-same o (finmap.remove o path) q (object_at-same o (finmap.remove o path) (commit_name q) (λ named. at_left o path (object_path (commit_name q)) (path_of_another path q (Some at) is (λ same. there.1 (sym (same_Some at q same))) named)))))
      (eqb_tells q at)
