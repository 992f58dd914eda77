-- The groups of commits, and the newest commit of one.
use Rattle.std.proofs.Common.{◌≡◌, ◌≢◌, ◌⊎◌, inl, inr, ⊎_elim, ℕ, ◌+◌, ◌<◌, ◌≤◌, arith, Bool, true, false, cond, List, [], ◌∷◌, ◌++◌, length, take, get_or, map, Option, Some, None, IsSome, refl, sym, ◌∙◌, ap, subst}
use Rattle.std.specs.Prelude.{Contains, max, nat_eq, unwrap_or}
use Rattle.std.specs.BTreeMap as tree
use Rattle.std.specs.BTreeMap.{BTreeMap}
use Rattle.std.specs.Cmp.{nat_cmp_total, eq_by_cmp_equiv}
use Rattle.std.specs.Option.{option_map_or}
use Rattle.std.specs.Ordering.{nat_cmp, eq_by_cmp}
use Rattle.std.proofs.lemmas.Bool.{false_from_ne_true}
use Rattle.std.proofs.lemmas.Bool.Decides.{eqb_tells}
use Rattle.std.proofs.lemmas.List.{take_more, take_all}
use Rattle.std.proofs.lemmas.List.Elements.{All-append, All-cons, All-nil, All-contains, All-weaker, Contains-append_left, Contains-push, Contains-push_cases}
use Rattle.std.proofs.lemmas.Map.Lookups.{exact_unsigned}
use Rattle.std.proofs.lemmas.Map.Views.{btree_map_get_iff, tells_apart}
use Rattle.mx_model.specs.declared.action.Action.{Action}
use Rattle.mx_store.specs.Objects.{Objects}
use Rattle.mx_folder.specs.Actions.{action_at}
use Rattle.mx_groups.specs.declared.groups.Groups.{Groups}
use Rattle.mx_groups.specs.Groups.{groups_of, groups_at, listed_at, held_at, AreGroupsOf, AreCommits, IsNewestOf, RisesTo, IsNewestIn, HoldsThose}

pub mapped_push : {A B : Type 0} (f : A → B) (front : List A) (x : A) → map f (front ++ x ∷ []) ≡ map f front ++ f x ∷ []
mapped_push f [] x = refl
mapped_push {A} {B} f (y ∷ front) x = ap (λ (l : List B). f y ∷ l) (mapped_push f front x)

-- ---- one commit more or less

pub same_test : (at q : ℕ) → eq_by_cmp nat_cmp at q ≡ nat_eq q at
same_test at q = ⊎_elim
    (λ (here : (nat_eq q at ≡ true) × (q ≡ at)). subst (λ (n : ℕ). eq_by_cmp nat_cmp at n ≡ true) (sym here.1) ((eq_by_cmp_equiv nat_cmp_total).refl at) ∙ sym here.0)
    (λ (there : (nat_eq q at ≡ false) × (q ≢ at)). false_from_ne_true (eq_by_cmp nat_cmp at q) (λ is. there.1 (sym (tells_apart exact_unsigned at q is))) ∙ sym there.0)
    (eqb_tells q at)

listed_cond : (b : Bool) (groups : List (List ℕ)) (old : Option (List (List ℕ))) → unwrap_or (cond b (Some groups) old) [] ≡ cond b groups (unwrap_or old [])
listed_cond true groups old = refl
listed_cond false groups old = refl

left_cond : (b : Bool) (old : Option (List (List ℕ))) → unwrap_or (cond b None old) [] ≡ cond b [] (unwrap_or old [])
left_cond true old = refl
left_cond false old = refl

pub listed_more : (at : ℕ) (groups : List (List ℕ)) (old new : BTreeMap ℕ (List (List ℕ))) → tree.Updates nat_cmp old new at (Some groups) → (q : ℕ) → listed_at new q ≡ cond (nat_eq q at) groups (listed_at old q)
listed_more at groups old new updates q =
    ap (λ (o : Option (List (List ℕ))). unwrap_or o []) (updates.0 q)
    ∙ listed_cond (eq_by_cmp nat_cmp at q) groups (tree.get nat_cmp old q)
    ∙ ap (λ (b : Bool). cond b groups (listed_at old q)) (same_test at q)

pub listed_less : (at : ℕ) (old new : BTreeMap ℕ (List (List ℕ))) → tree.Updates nat_cmp old new at None → (q : ℕ) → listed_at new q ≡ cond (nat_eq q at) [] (listed_at old q)
listed_less at old new updates q =
    ap (λ (o : Option (List (List ℕ))). unwrap_or o []) (updates.0 q)
    ∙ left_cond (eq_by_cmp nat_cmp at q) (tree.get nat_cmp old q)
    ∙ ap (λ (b : Bool). cond b [] (listed_at old q)) (same_test at q)

-- ---- the newest commit of a group

pub newest_start : (group : List ℕ) → IsNewestIn [] group 0
newest_start group = record { counts = λ some. absurd (some refl); above = All-nil _ }

pub max_cases : (a b : ℕ) → (max a b ≡ a) ⊎ (max a b ≡ b)
max_cases a b = grind arith

pub max_left : (a b : ℕ) → a ≤ max a b
max_left a b = grind arith

max_right : (a b : ℕ) → b ≤ max a b
max_right a b = grind arith

abbrev Upto : List ℕ → ℕ → ℕ × List (List ℕ) → Type 0
Upto group newest e = Contains e.1 group → e.0 ≤ newest

pub newest_more : (listed : List (ℕ × List (List ℕ))) (group : List ℕ) (newest after at : ℕ) (groups : List (List ℕ)) → IsNewestIn listed group newest → RisesTo newest at (Contains groups group) after → IsNewestIn (listed ++ (at, groups) ∷ []) group after
newest_more listed group newest after at groups before (inl (has, is)) = record {
  counts = λ some. ⊎_elim
      (λ (same : max newest at ≡ newest).
      let old = before.counts (λ none. some (is ∙ same ∙ none)) in
      (old.0, subst (λ (n : ℕ). Contains (listed ++ (at, groups) ∷ []) (n, old.0)) (sym (is ∙ same)) (Contains-append_left listed ((at, groups) ∷ []) (newest, old.0) old.1), old.2))
      (λ (same : max newest at ≡ at). (groups, subst (λ (n : ℕ). Contains (listed ++ (at, groups) ∷ []) (n, groups)) (sym (is ∙ same)) (Contains-push listed (at, groups)), has))
      (max_cases newest at);
  above = All-append (Upto group after) listed ((at, groups) ∷ [])
      (All-weaker (Upto group newest) (Upto group after) (λ e upto among. omega (arith, upto among, is, max_left newest at)) listed before.above)
      (All-cons (Upto group after) (at, groups) [] (λ among. omega (arith, is, max_right newest at)) (All-nil _));
}
newest_more listed group newest after at groups before (inr (lacks, is)) = record {
  counts = λ some.
      let old = before.counts (λ none. some (is ∙ none)) in
      (old.0, subst (λ (n : ℕ). Contains (listed ++ (at, groups) ∷ []) (n, old.0)) (sym is) (Contains-append_left listed ((at, groups) ∷ []) (newest, old.0) old.1), old.2);
  above = All-append (Upto group after) listed ((at, groups) ∷ [])
      (All-weaker (Upto group newest) (Upto group after) (λ e upto among. omega (arith, upto among, is)) listed before.above)
      (All-cons (Upto group after) (at, groups) [] (λ among. absurd (lacks among)) (All-nil _));
}

-- the same of what an iterator gave
pub newest_next : {E : Type 0} (view : E → ℕ × List (List ℕ)) (given : List E) (x : E) (group : List ℕ) (newest after : ℕ) → IsNewestIn (map view given) group newest → RisesTo newest (view x).0 (Contains (view x).1 group) after → IsNewestIn (map view (given ++ x ∷ [])) group after
newest_next view given x group newest after before rises =
    subst (λ (l : List (ℕ × List (List ℕ))). IsNewestIn l group after) (sym (mapped_push view given x)) (newest_more (map view given) group newest after (view x).0 (view x).1 before rises)

module _ (commits : BTreeMap ℕ (List (List ℕ))) (ordered : tree.IsOrdered nat_cmp commits) (group : List ℕ) (newest : ℕ) (is : IsNewestIn commits.entries group newest) where
  pub newest_counts : newest ≢ 0 → Contains (listed_at commits newest) group
  newest_counts some =
      let found = is.counts some in
      let stands : tree.get nat_cmp commits newest ≡ Some found.0 = (btree_map_get_iff nat_cmp_total exact_unsigned commits ordered newest found.0).1 found.1 in
      subst (λ (o : Option (List (List ℕ))). Contains (unwrap_or o []) group) (sym stands) found.2

  pub newest_above : (at : ℕ) → Contains (listed_at commits at) group → at ≤ newest
  newest_above at among = from (tree.get nat_cmp commits at) refl
    where
      from : (o : Option (List (List ℕ))) → tree.get nat_cmp commits at ≡ o → at ≤ newest
      from None absent = absurd (let none : Contains [] group = subst (λ (x : Option (List (List ℕ))). Contains (unwrap_or x []) group) absent among in omega (arith, none.1))
      from (Some groups) stands =
          All-contains (Upto group newest) commits.entries (at, groups) is.above ((btree_map_get_iff nat_cmp_total exact_unsigned commits ordered at groups).0 stands)
          (subst (λ (x : Option (List (List ℕ))). Contains (unwrap_or x []) group) stands among)

pub newest_of_groups : (o : Objects) (groups : Groups) (group : List ℕ) (newest : ℕ) → (newest ≢ 0 → Contains (held_at groups newest) group) → ((at : ℕ) → Contains (held_at groups at) group → at ≤ newest) → AreGroupsOf o groups → IsNewestOf o group newest
newest_of_groups o groups group newest counts above are = record {
  counts = λ some. subst (λ (gs : List (List ℕ)). Contains gs group) (are newest) (counts some);
  above = λ at among. above at (subst (λ (gs : List (List ℕ)). Contains gs group) (sym (are at)) among);
}

-- ---- the groups of a list of commits

abbrev at_of : Action → ℕ
at_of action = action.at

pub those_start : (o : Objects) (groups : Groups) → ((at : ℕ) → held_at groups at ≡ []) → HoldsThose o [] groups
those_start o groups none at = inr ((λ among. absurd (omega (arith, among.1))), none at)

pub those_more : (o : Objects) (front : List Action) (x : Action) (old new : Groups) → action_at o x.at ≡ Some x → HoldsThose o front old → ((q : ℕ) → held_at new q ≡ cond (nat_eq q x.at) (groups_of x.meta) (held_at old q)) → HoldsThose o (front ++ x ∷ []) new
those_more o front x old new counts holds held q = ⊎_elim
    (λ (here : (nat_eq q x.at ≡ true) × (q ≡ x.at)). inl (
      subst (λ (l : List ℕ). Contains l q) (sym (mapped_push at_of front x)) (subst (λ (n : ℕ). Contains (map at_of front ++ x.at ∷ []) n) (sym here.1) (Contains-push (map at_of front) x.at)),
      held q ∙ ap (λ (b : Bool). cond b (groups_of x.meta) (held_at old q)) here.0
          ∙ sym (ap (λ (n : ℕ). groups_at o n) here.1 ∙ ap (λ (a : Option Action). option_map_or (λ (action : Action). groups_of action.meta) a []) counts),
    ))
    (λ (there : (nat_eq q x.at ≡ false) × (q ≢ x.at)). other there.1 (held q ∙ ap (λ (b : Bool). cond b (groups_of x.meta) (held_at old q)) there.0) (holds q))
    (eqb_tells q x.at)
  where
    other : q ≢ x.at → held_at new q ≡ held_at old q
        → (Contains (map at_of front) q × (held_at old q ≡ groups_at o q)) ⊎ (¬ (Contains (map at_of front) q) × (held_at old q ≡ []))
        → (Contains (map at_of (front ++ x ∷ [])) q × (held_at new q ≡ groups_at o q)) ⊎ (¬ (Contains (map at_of (front ++ x ∷ [])) q) × (held_at new q ≡ []))
    other differ same (inl (among, is)) = inl (subst (λ (l : List ℕ). Contains l q) (sym (mapped_push at_of front x)) (Contains-append_left (map at_of front) (x.at ∷ []) q among), same ∙ is)
    other differ same (inr (never, is)) = inr (
      (λ among. ⊎_elim (λ (before : Contains (map at_of front) q). never before) (λ (now : x.at ≡ q). differ (sym now)) (Contains-push_cases (map at_of front) x.at q (subst (λ (l : List ℕ). Contains l q) (mapped_push at_of front x) among))),
      same ∙ is,
    )

pub those_next : (o : Objects) (commits : List Action) (i : ℕ) (x : Action) (old new : Groups) → AreCommits o commits → i < length commits → x ≡ get_or commits i x → HoldsThose o (take i commits) old
    → ((q : ℕ) → held_at new q ≡ cond (nat_eq q x.at) (groups_of x.meta) (held_at old q)) → HoldsThose o (take (i + 1) commits) new
those_next o commits i x old new are within is holds held =
    subst (λ (front : List Action). HoldsThose o front new) (sym (take_more commits i x within ∙ ap (λ (y : Action). take i commits ++ y ∷ []) (sym is)))
    (those_more o (take i commits) x old new (subst (λ (y : Action). action_at o y.at ≡ Some y) (sym is) (are.each i x within)) holds held)

pub those_whole : (o : Objects) (commits : List Action) (i : ℕ) (groups : Groups) → length commits ≤ i → HoldsThose o (take i commits) groups → HoldsThose o commits groups
those_whole o commits i groups past holds = subst (λ (front : List Action). HoldsThose o front groups) (take_all i commits past) holds

pub those_all : (o : Objects) (commits : List Action) (groups : Groups) → AreCommits o commits → HoldsThose o commits groups → AreGroupsOf o groups
those_all o commits groups are holds at = from (holds at) (action_at o at) refl
  where
    from : (Contains (map at_of commits) at × (held_at groups at ≡ groups_at o at)) ⊎ (¬ (Contains (map at_of commits) at) × (held_at groups at ≡ [])) → (a : Option Action) → action_at o at ≡ a → held_at groups at ≡ groups_at o at
    from (inl (among, is)) a stands = is
    from (inr (never, is)) None absent = is ∙ sym (ap (λ (a : Option Action). option_map_or (λ (action : Action). groups_of action.meta) a []) absent)
    from (inr (never, is)) (Some action) stands = absurd (never (are.all at (subst IsSome (sym stands) refl)))
