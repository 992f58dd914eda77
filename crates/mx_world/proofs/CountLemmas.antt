-- The instants of the actions whose objects stand.
use Rattle.std.proofs.Common.{◌≡◌, ◌↔◌, ◌⊎◌, inl, inr, ⊎_elim, ℕ, arith, Bool, true, false, cond, ◌&&◌, List, [], ◌∷◌, ◌++◌, map, Option, Some, None, IsSome, is_some, refl, sym, ◌∙◌, ap, subst}
use Rattle.std.specs.Prelude.{Contains, IfOk, Result, Ok, Err}
use Rattle.std.specs.BTreeSet.{BTreeSet, contains}
use Rattle.std.specs.Cmp.{nat_cmp_total}
use Rattle.std.specs.Cmp.Lexicographic.{nat_list_cmp_total}
use Rattle.std.specs.Ordering.{nat_cmp, eq_by_cmp}
use Rattle.std.proofs.lemmas.Bool.{and_parts}
use Rattle.std.proofs.lemmas.List.Elements.{Contains-append_left, Contains-push, Contains-push_cases}
use Rattle.std.proofs.lemmas.Map.Lookups.{exact_unsigned, exact_bytes}
use Rattle.std.proofs.lemmas.Option.{none-some, same_Some}
use Rattle.std.proofs.lemmas.Map.Views.{btree_set_contains_iff}
use Rattle.mx_base.specs.Objects.{object_path}
use Rattle.mx_base.specs.declared.object_name.ObjectName.{ObjectName}
use Rattle.mx_base.specs.declared.object_name.ObjectName.TheVariants.{Timeline}
use Rattle.mx_store.specs.Objects.{Objects, at_path}
use Rattle.mx_folder.specs.Named.{is_hidden}
use Rattle.mx_folder.proofs.NamedLemmas.{object_at-is, object_at-stands}
use Rattle.mx_folder.proofs.PendingLemmas.{hidden_object}
use Rattle.mx_groups.proofs.GroupLemmas.{mapped_push}
use Rattle.mx_world.specs.declared.mirror.Mirror.{Mirror}
use Rattle.mx_world.specs.Instants.{HasAction, CountsInstants, IsOfAction, HasActionsOf, HasActionToo, CountsActionsOf}
use Rattle.mx_world.specs.Mirror.{IsMirrorOf}
use Rattle.mx_world.proofs.MirrorLemmas.{same_number, number_same}

-- ---- one path more

pub too_some : (path : List ℕ) (at : ℕ) (found : Option ℕ) (old new : BTreeSet ℕ) → found ≡ Some at → IsOfAction path at → ((a : ℕ) → IsOfAction path a → found ≡ Some a) → ((q : ℕ) → contains nat_cmp new q ≡ cond (eq_by_cmp nat_cmp at q) true (contains nat_cmp old q))
    → HasActionToo path old new
too_some path at found old new is here only updates q = (to (eq_by_cmp nat_cmp at q) refl, from)
  where
    to : (b : Bool) → eq_by_cmp nat_cmp at q ≡ b → contains nat_cmp new q ≡ true → (contains nat_cmp old q ≡ true) ⊎ IsOfAction path q
    to true same has = inr (subst (IsOfAction path) (same_number at q same) here)
    to false other has = inl (sym (updates q ∙ ap (λ (b : Bool). cond b true (contains nat_cmp old q)) other) ∙ has)

    always : (b x : Bool) → x ≡ true → cond b true x ≡ true
    always true x h = refl
    always false x h = h

    from : (contains nat_cmp old q ≡ true) ⊎ IsOfAction path q → contains nat_cmp new q ≡ true
    from (inl had) = updates q ∙ always (eq_by_cmp nat_cmp at q) (contains nat_cmp old q) had
    from (inr action) = updates q ∙ ap (λ (b : Bool). cond b true (contains nat_cmp old q)) (ap (eq_by_cmp nat_cmp at) (sym (same_Some at q (sym is ∙ only q action))) ∙ number_same at)

pub too_none : (path : List ℕ) (found : Option ℕ) (old : BTreeSet ℕ) → found ≡ None → ((a : ℕ) → IsOfAction path a → found ≡ Some a) → HasActionToo path old old
too_none path found old is only q = (λ has. inl has, from)
  where
    from : (contains nat_cmp old q ≡ true) ⊎ IsOfAction path q → contains nat_cmp old q ≡ true
    from (inl had) = had
    from (inr action) = absurd (none-some q (sym is ∙ only q action))

-- ---- over all paths

pub actions_none : (instants : BTreeSet ℕ) → ((q : ℕ) → contains nat_cmp instants q ≡ false) → HasActionsOf [] instants
actions_none instants empty q = (λ has. absurd (cc (sym (empty q) ∙ has)), λ among. absurd (omega (arith, among.1.1)))

pub actions_next : {A : Type 0} (view : A → List ℕ) (given : List A) (x : A) (old new : BTreeSet ℕ) → HasActionsOf (map view given) old → HasActionToo (view x) old new → HasActionsOf (map view (given ++ x ∷ [])) new
actions_next view given x old new before too = subst (λ (paths : List (List ℕ)). HasActionsOf paths new) (sym (mapped_push view given x)) (λ q. (to q, from q))
  where
    to : (q : ℕ) → contains nat_cmp new q ≡ true → (path : List ℕ) × Contains (map view given ++ view x ∷ []) path × IsOfAction path q
    to q has = ⊎_elim
        (λ (had : contains nat_cmp old q ≡ true). let found = (before q).0 had in (found.0, Contains-append_left (map view given) (view x ∷ []) found.0 found.1, found.2))
        (λ (action : IsOfAction (view x) q). (view x, Contains-push (map view given) (view x), action))
        ((too q).0 has)

    from : (q : ℕ) → (path : List ℕ) × Contains (map view given ++ view x ∷ []) path × IsOfAction path q → contains nat_cmp new q ≡ true
    from q (path, among, action) = ⊎_elim
        (λ (earlier : Contains (map view given) path). (too q).1 (inl ((before q).1 (path, earlier, action))))
        (λ (last : view x ≡ path). (too q).1 (inr (subst (λ (p : List ℕ). IsOfAction p q) (sym last) action)))
        (Contains-push_cases (map view given) (view x) path among)

-- ---- of a mirror's names

module _ (o : Objects) (m : Mirror) (is : IsMirrorOf o m) where
  name_stands : (path : List ℕ) → Contains m.names.keys path → IsSome (at_path o path)
  name_stands path among = (and_parts (is_hidden path) (is_some (at_path o path)) (sym (is.names path) ∙ (btree_set_contains_iff nat_list_cmp_total exact_bytes m.names path).1 among)).1

  stands_named : (name : ObjectName) → IsSome (at_path o (object_path name)) → Contains m.names.keys (object_path name)
  stands_named name stands =
      (btree_set_contains_iff nat_list_cmp_total exact_bytes m.names (object_path name)).0
      (is.names (object_path name) ∙ ap (λ (b : Bool). b && is_some (at_path o (object_path name))) (hidden_object name) ∙ stands)

  has_action : (at : ℕ) → ((path : List ℕ) × Contains m.names.keys path × IsOfAction path at) ↔ HasAction o at
  has_action at = (to, from)
    where
      to : (path : List ℕ) × Contains m.names.keys path × IsOfAction path at → HasAction o at
      to (path, among, (kind, state, named, path_is)) = (
        kind,
        state,
        subst IsSome (sym (object_at-is o (Timeline at kind state) named)) (subst (λ (p : List ℕ). IsSome (at_path o p)) path_is (name_stands path among)),
      )

      from : HasAction o at → (path : List ℕ) × Contains m.names.keys path × IsOfAction path at
      from (kind, state, stands) =
          let found = object_at-stands o (Timeline at kind state) stands in
          (object_path (Timeline at kind state), stands_named (Timeline at kind state) found.1, (kind, state, found.0, refl))

  instants_counted : (count : ℕ) → CountsActionsOf m.names.keys count → CountsInstants o count
  instants_counted count counts = record {
    instants = counts.instants.keys;
    rising = counts.rising;
    each = λ at. (
      λ among. (has_action at).0 ((counts.has at).0 ((btree_set_contains_iff nat_cmp_total exact_unsigned counts.instants at).1 among)),
      λ has. (btree_set_contains_iff nat_cmp_total exact_unsigned counts.instants at).0 ((counts.has at).1 ((has_action at).1 has)),
    );
    count_is = counts.count_is;
  }

pub all_instants_counted : {E : Type 0} (m : Mirror) (r : Result ℕ E) → IfOk r (λ count. CountsActionsOf m.names.keys count) → IfOk r (λ count. (o : Objects) → IsMirrorOf o m → CountsInstants o count)
all_instants_counted m (Err e) counts = tt
all_instants_counted m (Ok count) counts = λ o is. instants_counted o m is count counts
