-- The names of a folder tell its completed commits.
use Rattle.std.proofs.Common.{◌≡◌, ⊎_elim, ℕ, ◌+◌, ◌<◌, arith, suc, List, [], ◌∷◌, ◌++◌, take, get_or, length, map, Option, Some, None, IsSome, refl, sym, ◌∙◌, ap, subst}
use Rattle.std.specs.Prelude.{All, Contains, option_and_then}
use Rattle.std.specs.List.{cons_option, filter_map}
use Rattle.std.specs.Option.{option_to_list}
use Rattle.std.proofs.lemmas.List.{take_more}
use Rattle.std.proofs.lemmas.List.Elements.{All-cons, All-nil, filter_map-append}
use Rattle.mx_base.specs.Objects.{object_path}
use Rattle.mx_base.specs.Paths.{commit_instant}
use Rattle.mx_base.specs.declared.object_name.ObjectName.{ObjectName}
use Rattle.mx_model.specs.Timeline as timeline
use Rattle.mx_model.specs.declared.action.Action.{Action}
use Rattle.mx_store.specs.Objects.{Objects, at_path}
use Rattle.mx_folder.specs.Actions.{action_at}
use Rattle.mx_folder.specs.Named.{commit_name, object_at}
use Rattle.mx_folder.proofs.ActionLemmas.{completed_action}
use Rattle.mx_folder.proofs.ElementLemmas.{among_cases}
use Rattle.mx_folder.proofs.NamedLemmas.{object_at-is, path_of_commit, commit_of_path}
use Rattle.mx_groups.specs.Groups.{AreCommits}
use Rattle.mx_open.specs.Leaving.{AreNamesOf}
use Rattle.mx_open.proofs.LeavingLemmas.{named_among}

-- ---- elements that are told or not

one_told : {Y : Type 0} (x : Option Y) → cons_option x [] ≡ option_to_list x
one_told None = refl
one_told (Some y) = refl

pub actions_more : (f : List ℕ → Option Action) (paths : List (List ℕ)) (i : ℕ) (path : List ℕ) (old new : List Action) → i < length paths → path ≡ get_or paths i path → old ≡ filter_map f (take i paths) → new ≡ old ++ option_to_list (f path)
    → new ≡ filter_map f (take (i + 1) paths)
actions_more f paths i path old new within is before added =
    added
    ∙ ap (λ (l : List Action). l ++ option_to_list (f path)) before
    ∙ ap (λ (l : List Action). filter_map f (take i paths) ++ l) (sym (one_told (f path)))
    ∙ sym (filter_map-append f (take i paths) (path ∷ []))
    ∙ ap (filter_map f) (sym (take_more paths i path within ∙ ap (λ (y : List ℕ). take i paths ++ y ∷ []) (sym is)))

-- an element that is told is among the told ones
told_among : (f : List ℕ → Option Action) (paths : List (List ℕ)) (path : List ℕ) (action : Action) → Contains paths path → f path ≡ Some action → Contains (map (λ (a : Action). a.at) (filter_map f paths)) action.at
told_among f [] path action among told = absurd (omega (arith, among.1))
told_among f (p ∷ paths) path action among told = ⊎_elim
    (λ (here : p ≡ path). subst (λ (x : Option Action). Contains (map (λ (a : Action). a.at) (cons_option x (filter_map f paths))) action.at) (sym (ap f here ∙ told)) (0, omega arith, refl))
    (λ (there : Contains paths path). from (f p) (told_among f paths path action there told))
    (among_cases path p paths among)
  where
    from : (x : Option Action) → Contains (map (λ (a : Action). a.at) (filter_map f paths)) action.at → Contains (map (λ (a : Action). a.at) (cons_option x (filter_map f paths))) action.at
    from None further = further
    from (Some first) further = (suc further.0, omega (arith, further.1), further.2)

-- what holds of each that is told
each_told : (f : List ℕ → Option Action) (P : Action → Type 0) → ((path : List ℕ) (action : Action) → f path ≡ Some action → P action) → (paths : List (List ℕ)) → All P (filter_map f paths)
each_told f P holds [] = All-nil P
each_told f P holds (path ∷ paths) = from (f path) refl (each_told f P holds paths)
  where
    from : (x : Option Action) → f path ≡ x → All P (filter_map f paths) → All P (cons_option x (filter_map f paths))
    from None is rest = rest
    from (Some action) is rest = All-cons P action (filter_map f paths) (holds path action is) rest

-- ---- the commit at a path and of an instant

module _ (o held : Objects) (same : (name : ObjectName) → object_at held name ≡ object_at o name) where
  by_path : (path : List ℕ) (at : ℕ) → commit_instant path ≡ Some at → timeline.action_at held path ≡ action_at o at
  unfolding action_at
  by_path path at is =
      let commit = path_of_commit path at is in
      let here : at_path held path ≡ object_at o (commit_name at) = ap (at_path held) commit.1 ∙ sym (object_at-is held (commit_name at) commit.0) ∙ same (commit_name at) in
      ap (λ (x : Option ℕ). option_and_then (λ (t : ℕ). option_and_then (timeline.action_of t) (at_path held path)) x) is
      ∙ ap (λ (b : Option (List ℕ)). option_and_then (timeline.action_of at) b) here

  each_counts : (path : List ℕ) (action : Action) → timeline.action_at held path ≡ Some action → action_at o action.at ≡ Some action
  each_counts path action is = from (commit_instant path) refl
    where
      from : (x : Option ℕ) → commit_instant path ≡ x → action_at o action.at ≡ Some action
      from None none = absurd (cc (sym (ap (λ (x : Option ℕ). option_and_then (λ (t : ℕ). option_and_then (timeline.action_of t) (at_path held path)) x) none) ∙ is))
      from (Some at) some =
          let counts : action_at o at ≡ Some action = sym (by_path path at some) ∙ is in
          subst (λ (t : ℕ). action_at o t ≡ Some action) (sym (completed_action o at action counts).0) counts

pub are_commits : (o held : Objects) (names : List (List ℕ)) (actions : List Action) → AreNamesOf o held names → actions ≡ filter_map (timeline.action_at held) names → AreCommits o actions
are_commits o held names actions named is = subst (AreCommits o) (sym is) (record {
  each = each_told (timeline.action_at held) (λ (action : Action). action_at o action.at ≡ Some action) (each_counts o held named.same) names;
  all = λ at counts. among at (action_at o at) refl counts;
})
  where
    among : (at : ℕ) (x : Option Action) → action_at o at ≡ x → IsSome x → Contains (map (λ (a : Action). a.at) (filter_map (timeline.action_at held) names)) at
    among at None none some = absurd (cc some)
    among at (Some action) counts some =
        let done = completed_action o at action counts in
        let found = named_among o names named.all (commit_name at) done.1 in
        let told : timeline.action_at held (object_path (commit_name at)) ≡ Some action = by_path o held named.same (object_path (commit_name at)) at (commit_of_path (object_path (commit_name at)) at found.0 refl) ∙ counts in
        subst (Contains (map (λ (a : Action). a.at) (filter_map (timeline.action_at held) names))) done.0 (told_among (timeline.action_at held) names (object_path (commit_name at)) action found.1 told)
