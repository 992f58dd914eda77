-- The instants of completed commits, in their order.
use Rattle.std.proofs.Common.{◌≡◌, ◌≢◌, ⊎_elim, ℕ, zero, suc, ◌≤◌, ◌<◌, arith, Bool, true, false, cond, List, [], ◌∷◌, ◌++◌, Option, Some, None, IsSome, is_some, refl, sym, ◌∙◌, ap, subst}
use Rattle.std.specs.Prelude.{All, Contains, filter, nat_le, option_to_list}
use Rattle.std.specs.List.{flat_map}
use Rattle.std.specs.List.Sorted.{IsStrictlySortedBy}
use Rattle.std.specs.Ordering.{nat_cmp}
use Rattle.std.proofs.lemmas.Bool.Decides.{nat_tests}
use Rattle.std.proofs.lemmas.Grind.{flat_map-append}
use Rattle.std.proofs.lemmas.List.{append-nil}
use Rattle.std.proofs.lemmas.List.Elements.{All-head, All-tail}
use Rattle.std.proofs.lemmas.Map.Keys.{sorted_tail, below_from_sorted}
use Rattle.mx_base.specs.declared.entry.Entry.{Entry}
use Rattle.mx_model.specs.declared.action.Action.{Action}
use Rattle.mx_store.specs.Objects.{Objects}
use Rattle.mx_folder.specs.Named.{object_at, commit_name}
use Rattle.mx_folder.specs.Actions.{IsCompleted, action_at, actions_upto}
use Rattle.mx_folder.specs.Slices.{entries_at, logged_entries}
use Rattle.mx_folder.specs.Completed.{completed_upto}
use Rattle.mx_folder.proofs.ActionLemmas.{completed_action}
use Rattle.mx_folder.proofs.ElementLemmas.{among_here, among_later, among_cases}
use Rattle.mx_folder.proofs.NamedLemmas.{object_at-stands}

-- ---- lists of instants

le_yes : (n m : ℕ) → n ≤ m → nat_le n m ≡ true
le_yes n m h = grind (arith, nat_tests)

le_no : (n m : ℕ) → m < n → nat_le n m ≡ false
le_no n m h = grind (arith, nat_tests)

le_next : (n a : ℕ) → n ≢ suc a → nat_le n (suc a) ≡ nat_le n a
le_next n a other = grind (arith, nat_tests)

abbrev upto : ℕ → List ℕ → List ℕ
upto a ks = filter (λ t. nat_le t a) ks

none_upto : (a : ℕ) (ks : List ℕ) → All (λ t. a < t) ks → upto a ks ≡ []
none_upto a [] above = refl
none_upto a (k ∷ ks) above = ap (λ (b : Bool). cond b (k ∷ upto a ks) (upto a ks)) (le_no k a (All-head (λ t. a < t) k ks above)) ∙ none_upto a ks (All-tail (λ t. a < t) k ks above)

pub head_below : (k : ℕ) (ks : List ℕ) → IsStrictlySortedBy nat_cmp (k ∷ ks) → All (λ t. k < t) ks
head_below k ks sorted = λ i d within. below_from_sorted (k ∷ ks) 0 (suc i) d sorted (omega arith) (omega (arith, within))

below_those : (k : ℕ) (ks : List ℕ) → IsStrictlySortedBy nat_cmp (k ∷ ks) → (q : ℕ) → Contains ks q → k < q
below_those k ks sorted q (i, within, is) = subst (λ (n : ℕ). k < n) is (head_below k ks sorted i q within)

-- an instant that is not among them changes nothing
upto_not : (a : ℕ) (ks : List ℕ) → (Contains ks (suc a) → ⊥) → upto (suc a) ks ≡ upto a ks
upto_not a [] never = refl
upto_not a (k ∷ ks) never =
    ap (λ (b : Bool). cond b (k ∷ upto (suc a) ks) (upto (suc a) ks)) (le_next k a (λ same. never (subst (Contains (k ∷ ks)) same (among_here k ks))))
    ∙ ap (λ (l : List ℕ). cond (nat_le k a) (k ∷ l) l) (upto_not a ks (λ there. never (among_later (suc a) k ks there)))

-- one that is comes last
upto_has : (a : ℕ) (ks : List ℕ) → IsStrictlySortedBy nat_cmp ks → Contains ks (suc a) → upto (suc a) ks ≡ upto a ks ++ suc a ∷ []
upto_has a [] sorted has = absurd (omega (arith, has.1))
upto_has a (k ∷ ks) sorted has = ⊎_elim here (λ (there : Contains ks (suc a)). later there (upto_has a ks (sorted_tail nat_cmp k ks sorted) there)) (among_cases (suc a) k ks has)
  where
    here : k ≡ suc a → upto (suc a) (k ∷ ks) ≡ upto a (k ∷ ks) ++ suc a ∷ []
    here same =
        ap (λ (b : Bool). cond b (k ∷ upto (suc a) ks) (upto (suc a) ks)) (le_yes k (suc a) (omega (arith, same)))
        ∙ ap (λ (l : List ℕ). k ∷ l) (none_upto (suc a) ks (λ i d within. omega (arith, same, head_below k ks sorted i d within)))
        ∙ ap (λ (n : ℕ). n ∷ []) same
        ∙ ap (λ (l : List ℕ). l ++ suc a ∷ []) (sym (ap (λ (b : Bool). cond b (k ∷ upto a ks) (upto a ks)) (le_no k a (omega (arith, same))) ∙ none_upto a ks (λ i d within. omega (arith, same, head_below k ks sorted i d within))))

    later : Contains ks (suc a) → upto (suc a) ks ≡ upto a ks ++ suc a ∷ [] → upto (suc a) (k ∷ ks) ≡ upto a (k ∷ ks) ++ suc a ∷ []
    later there rest =
        let below : k < suc a = below_those k ks sorted (suc a) there in
        ap (λ (b : Bool). cond b (k ∷ upto (suc a) ks) (upto (suc a) ks)) (le_yes k (suc a) (omega (arith, below)))
        ∙ ap (λ (l : List ℕ). k ∷ l) rest
        ∙ ap (λ (l : List ℕ). l ++ suc a ∷ []) (sym (ap (λ (b : Bool). cond b (k ∷ upto a ks) (upto a ks)) (le_yes k a (omega (arith, below)))))

-- no commit has the instant 0
zero_pending : (o : Objects) → IsCompleted o 0 → ⊥
zero_pending o done = let named = object_at-stands o (commit_name 0) done in absurd (cc named.0)

module _ (o : Objects) (ks : List ℕ) (sorted : IsStrictlySortedBy nat_cmp ks) (done : (at : ℕ) → Contains ks at → IsCompleted o at) (all : (at : ℕ) → IsCompleted o at → Contains ks at) where
  never_zero : Contains ks 0 → ⊥
  never_zero has = zero_pending o (done 0 has)

  zero_upto : (xs : List ℕ) → (Contains xs 0 → ⊥) → upto 0 xs ≡ []
  zero_upto [] never = refl
  zero_upto (x ∷ xs) never = ap (λ (b : Bool). cond b (x ∷ upto 0 xs) (upto 0 xs)) (le_no x 0 (positive x (λ same. never (subst (Contains (x ∷ xs)) same (among_here x xs))))) ∙ zero_upto xs (λ there. never (among_later 0 x xs there))
    where
      positive : (n : ℕ) → n ≢ 0 → 0 < n
      positive zero other = absurd (other refl)
      positive (suc n) other = omega arith

  -- the sorted instants of all completed commits, up to one, are the ones that are counted up to it
  pub completed_sorted : (at : ℕ) → upto at ks ≡ completed_upto o at
  unfolding completed_upto
  completed_sorted zero = zero_upto ks never_zero
  completed_sorted (suc at) = step (completed_sorted at) (is_some (object_at o (commit_name (suc at)))) refl
    where
      step : upto at ks ≡ completed_upto o at → (b : Bool) → is_some (object_at o (commit_name (suc at))) ≡ b → upto (suc at) ks ≡ completed_upto o at ++ cond b (suc at ∷ []) []
      step before true stands = upto_has at ks sorted (all (suc at) stands) ∙ ap (λ (l : List ℕ). l ++ suc at ∷ []) before
      step before false absent = upto_not at ks (λ has. absurd (cc (sym absent ∙ done (suc at) has))) ∙ before ∙ sym (append-nil (completed_upto o at))

-- ---- what their logs add

-- where each completed commit reads, the logs of the completed commits are those of the commits that count
pub logged_completed : (o : Objects) → ((at : ℕ) → IsCompleted o at → IsSome (action_at o at)) → (at : ℕ) → flat_map (entries_at o) (completed_upto o at) ≡ logged_entries o (actions_upto o at)
unfolding completed_upto actions_upto
logged_completed o reads zero = sym (none (action_at o zero) refl)
  where
    none : (x : Option Action) → action_at o zero ≡ x → flat_map (λ (action : Action). entries_at o action.at) (option_to_list x) ≡ []
    none None is = refl
    none (Some action) is = absurd (zero_pending o (completed_action o zero action is).1)
logged_completed o reads (suc at) =
    flat_map-append (entries_at o) (completed_upto o at) _
    ∙ ap (λ (fs : List Entry). fs ++ flat_map (entries_at o) (cond (is_some (object_at o (commit_name (suc at)))) (suc at ∷ []) [])) (logged_completed o reads at)
    ∙ ap (λ (fs : List Entry). logged_entries o (actions_upto o at) ++ fs) (step (is_some (object_at o (commit_name (suc at)))) refl (action_at o (suc at)) refl)
    ∙ sym (flat_map-append (λ (action : Action). entries_at o action.at) (actions_upto o at) (option_to_list (action_at o (suc at))))
  where
    step : (b : Bool) → is_some (object_at o (commit_name (suc at))) ≡ b → (x : Option Action) → action_at o (suc at) ≡ x
        → flat_map (entries_at o) (cond b (suc at ∷ []) []) ≡ flat_map (λ (action : Action). entries_at o action.at) (option_to_list x)
    step true stands None is = absurd (cc (sym (ap is_some is) ∙ reads (suc at) stands))
    step true stands (Some action) is = ap (λ (n : ℕ). entries_at o n ++ []) (sym (completed_action o (suc at) action is).0)
    step false absent None is = refl
    step false absent (Some action) is = absurd (let done = completed_action o (suc at) action is in cc (sym absent ∙ done.1))
