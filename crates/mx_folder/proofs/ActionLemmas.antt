-- The commits that count, before and after a change.
use Rattle.std.proofs.Common.{◌≡◌, ◌≢◌, ℕ, zero, suc, ◌<◌, ◌≤◌, arith, List, [], ◌∷◌, ◌++◌, Option, Some, None, IsSome, refl, sym, ◌∙◌, ap, subst, ⊎_elim, append-nil}
use Rattle.std.specs.Prelude.{option_and_then, option_map, unwrap_or}
use Rattle.std.specs.Option.{option_to_list}
use Rattle.std.proofs.lemmas.Grind.{flat_map-append}
use Rattle.std.proofs.Math.Nat.{eq-or-lt_of_le}
use Rattle.mx_meta.specs.CommitText.{commit_meta_of}
use Rattle.mx_base.specs.declared.entry.Entry.{Entry}
use Rattle.mx_meta.specs.declared.commit_meta.CommitMeta.{CommitMeta}
use Rattle.mx_model.specs.declared.action.Action.{Action}
use Rattle.mx_model.specs.Timeline.{action_of}
use Rattle.mx_store.specs.Objects.{Objects}
use Rattle.mx_folder.specs.Named.{object_at, commit_name, log_name, first_base}
use Rattle.mx_folder.specs.Actions.{IsCompleted, action_at, actions_upto}
use Rattle.mx_folder.specs.Slices.{base_of, log_of, base_entries, entries_at, logged_entries}

pub action_at-same : (o n : Objects) (at : ℕ) → object_at n (commit_name at) ≡ object_at o (commit_name at) → action_at n at ≡ action_at o at
unfolding action_at
action_at-same o n at same = ap (λ (x : Option (List ℕ)). option_and_then (action_of at) x) same

pub action_at-none : (o : Objects) (at : ℕ) → object_at o (commit_name at) ≡ None → action_at o at ≡ None
unfolding action_at
action_at-none o at absent = ap (λ (x : Option (List ℕ)). option_and_then (action_of at) x) absent

pub action_at-some : (o : Objects) (at : ℕ) (bytes : List ℕ) (meta : CommitMeta) → object_at o (commit_name at) ≡ Some bytes → commit_meta_of bytes ≡ Some meta → action_at o at ≡ Some (record { at = at; meta = meta })
unfolding action_at
action_at-some o at bytes meta stands reads = ap (λ (x : Option (List ℕ)). option_and_then (action_of at) x) stands ∙ ap (λ (x : Option CommitMeta). option_map (λ (m : CommitMeta). record { at = at; meta = m }) x) reads

pub entries_at-same : (o n : Objects) (at : ℕ) → object_at n (log_name at) ≡ object_at o (log_name at) → entries_at n at ≡ entries_at o at
unfolding entries_at
entries_at-same o n at same = ap (λ (x : Option (List ℕ)). unwrap_or (option_and_then (log_of at) x) []) same

pub base_entries-same : (o n : Objects) → object_at n first_base ≡ object_at o first_base → base_entries n ≡ base_entries o
unfolding base_entries
base_entries-same o n same = ap (λ (x : Option (List ℕ)). unwrap_or (option_and_then base_of x) []) same

-- an action that counts is a completed commit of its own instant
some_action : (at : ℕ) (x : Option (List ℕ)) (action : Action) → option_and_then (action_of at) x ≡ Some action → (action.at ≡ at) × IsSome x
some_action at None action is = absurd (cc is)
some_action at (Some bytes) action is = (by_meta (commit_meta_of bytes) is, refl)
  where
    by_meta : (m : Option CommitMeta) → option_map (λ (m : CommitMeta). record { at = at; meta = m }) m ≡ Some action → action.at ≡ at
    by_meta None h = absurd (cc h)
    by_meta (Some meta) h = same_at h
      where
        same_at : ◌≡◌ {A = Option Action} (Some (record { at = at; meta = meta })) (Some action) → action.at ≡ at
        same_at h = ap (λ (a : Option Action). unwrap_or (option_map (λ (b : Action). b.at) a) at) (sym h)

pub completed_action : (o : Objects) (at : ℕ) (action : Action) → action_at o at ≡ Some action → (action.at ≡ at) × IsCompleted o at
unfolding action_at
completed_action o at action is = some_action at (object_at o (commit_name at)) action is

-- ---- folders with the same commits

module _ (o n : Objects) (bound : ℕ) (commits : (at : ℕ) → at ≤ bound → object_at n (commit_name at) ≡ object_at o (commit_name at)) where
  pub actions_upto-same : (p : ℕ) → p ≤ bound → actions_upto n p ≡ actions_upto o p
  unfolding actions_upto
  actions_upto-same zero within = ap option_to_list (action_at-same o n 0 (commits 0 within))
  actions_upto-same (suc p) within =
      ap (λ (done : List Action). done ++ option_to_list (action_at n (suc p))) (actions_upto-same p (omega (arith, within)))
      ∙ ap (λ (a : Option Action). actions_upto o p ++ option_to_list a) (action_at-same o n (suc p) (commits (suc p) within))

-- ---- folders with the same logs of completed commits

module _ (o n : Objects) (logs : (at : ℕ) → IsCompleted o at → object_at n (log_name at) ≡ object_at o (log_name at)) where
  one_logged : (at : ℕ) (a : Option Action) → action_at o at ≡ a → logged_entries n (option_to_list a) ≡ logged_entries o (option_to_list a)
  one_logged at None is = refl
  one_logged at (Some action) is =
      let done = completed_action o at action is in
      let same : entries_at n action.at ≡ entries_at o action.at = entries_at-same o n action.at (subst (λ (t : ℕ). object_at n (log_name t) ≡ object_at o (log_name t)) (sym done.0) (logs at done.1)) in
      ap (λ (es : List Entry). es ++ []) same

  pub logged_entries-same : (p : ℕ) → logged_entries n (actions_upto o p) ≡ logged_entries o (actions_upto o p)
  unfolding actions_upto
  logged_entries-same zero = one_logged 0 (action_at o 0) refl
  logged_entries-same (suc p) =
      flat_map-append (λ (a : Action). entries_at n a.at) (actions_upto o p) (option_to_list (action_at o (suc p)))
      ∙ ap (λ (es : List Entry). es ++ logged_entries n (option_to_list (action_at o (suc p)))) (logged_entries-same p)
      ∙ ap (λ (es : List Entry). logged_entries o (actions_upto o p) ++ es) (one_logged (suc p) (action_at o (suc p)) refl)
      ∙ sym (flat_map-append (λ (a : Action). entries_at o a.at) (actions_upto o p) (option_to_list (action_at o (suc p))))

-- ---- one commit more, at an instant above the others

module _ (o n : Objects) (at : ℕ) (commits : (a : ℕ) → a ≢ at → object_at n (commit_name a) ≡ object_at o (commit_name a)) (absent : object_at o (commit_name at) ≡ None) (newest : (a : ℕ) → IsCompleted o a → a < at) (action : Action) (stands : action_at n at ≡ Some action) where
  none_above : (a : ℕ) → at < a → action_at n a ≡ None
  none_above a above = action_at-same o n a (commits a (λ same. absurd (omega (arith, same, above)))) ∙ by_case (action_at o a) refl
    where
      by_case : (x : Option Action) → action_at o a ≡ x → action_at o a ≡ None
      by_case None is = is
      by_case (Some other) is = absurd (let early = newest a (completed_action o a other is).1 in omega (arith, early, above))

  pub upto_before : (p : ℕ) → p < at → actions_upto n p ≡ actions_upto o p
  upto_before p before = actions_upto-same o n p (λ a within. commits a (λ same. absurd (omega (arith, same, within, before)))) p (omega arith)

  upto_at : (p : ℕ) → p ≡ at → actions_upto n p ≡ actions_upto o p ++ action ∷ []
  unfolding actions_upto
  upto_at zero is =
      let here : action_at n 0 ≡ Some action = subst (λ (a : ℕ). action_at n a ≡ Some action) (sym is) stands in
      let none : action_at o 0 ≡ None = action_at-none o 0 (subst (λ (a : ℕ). object_at o (commit_name a) ≡ None) (sym is) absent) in
      ap option_to_list here ∙ ap (λ (a : Option Action). option_to_list a ++ action ∷ []) (sym none)
  upto_at (suc p) is =
      let here : action_at n (suc p) ≡ Some action = subst (λ (a : ℕ). action_at n a ≡ Some action) (sym is) stands in
      let none : action_at o (suc p) ≡ None = action_at-none o (suc p) (subst (λ (a : ℕ). object_at o (commit_name a) ≡ None) (sym is) absent) in
      ap (λ (done : List Action). done ++ option_to_list (action_at n (suc p))) (upto_before p (omega (arith, is)))
      ∙ ap (λ (a : Option Action). actions_upto o p ++ option_to_list a) here
      ∙ ap (λ (done : List Action). done ++ action ∷ []) (sym (append-nil (actions_upto o p)))
      ∙ ap (λ (a : Option Action). (actions_upto o p ++ option_to_list a) ++ action ∷ []) (sym none)

  upto_later : (p : ℕ) → at < suc p → actions_upto n p ≡ actions_upto o p ++ action ∷ [] → actions_upto n (suc p) ≡ actions_upto o (suc p) ++ action ∷ []
  unfolding actions_upto
  upto_later p above so_far =
      let none : action_at o (suc p) ≡ None = sym (action_at-same o n (suc p) (commits (suc p) (λ same. absurd (omega (arith, same, above))))) ∙ none_above (suc p) above in
      ap (λ (done : List Action). done ++ option_to_list (action_at n (suc p))) so_far
      ∙ ap (λ (a : Option Action). (actions_upto o p ++ action ∷ []) ++ option_to_list a) (none_above (suc p) above)
      ∙ append-nil (actions_upto o p ++ action ∷ [])
      ∙ ap (λ (done : List Action). done ++ action ∷ []) (sym (append-nil (actions_upto o p)))
      ∙ ap (λ (a : Option Action). (actions_upto o p ++ option_to_list a) ++ action ∷ []) (sym none)

  pub upto_from : (p : ℕ) → at ≤ p → actions_upto n p ≡ actions_upto o p ++ action ∷ []
  upto_from zero within = upto_at zero (omega (arith, within))
  upto_from (suc p) within = ⊎_elim
      (λ (same : at ≡ suc p). upto_at (suc p) (sym same))
      (λ (above : at < suc p). upto_later p above (upto_from p (omega (arith, above))))
      (eq-or-lt_of_le within)
