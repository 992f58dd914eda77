-- The names of a folder tell its pending commits, and what these left.
use Rattle.std.proofs.Common.{◌≡◌, ◌≢◌, ◌⊎◌, inl, inr, ⊎_elim, ℕ, ◌+◌, ◌<◌, Bool, true, false, cond, ◌||◌, List, [], ◌∷◌, ◌++◌, take, get_or, length, map, Option, Some, None, IsSome, refl, sym, ◌∙◌, ap, subst, codes}
use Rattle.std.specs.Prelude.{Contains, IsTrue, IfOk, Result, Ok, Err, not, filter, option_and_then, unwrap_or}
use Rattle.std.specs.BTreeMap as tree
use Rattle.std.specs.BTreeMap.{BTreeMap}
use Rattle.std.specs.BTreeSet.{BTreeSet, contains}
use Rattle.std.specs.Cmp.{nat_cmp_total, eq_by_cmp_equiv}
use Rattle.std.specs.FinMap as finmap
use Rattle.std.specs.List.{list_any}
use Rattle.std.specs.List.Sorted.{IsStrictlySortedBy}
use Rattle.std.specs.Option.{option_map_or}
use Rattle.std.specs.Ordering.{nat_cmp, eq_by_cmp}
use Rattle.std.specs.Str.{bytes_eq}
use Rattle.std.proofs.lemmas.Bool.{and_parts, and_from, or_cases, or_left, or_right, eq-eqb, eqb-true, false_from_ne_true, not_from_false}
use Rattle.std.proofs.lemmas.List.{take_more}
use Rattle.std.proofs.lemmas.List.Elements.{All-contains, All-map, All-contains_itself, All-weaker}
use Rattle.std.proofs.lemmas.List.Folds.{Any-from_list_any, list_any-from_Any}
use Rattle.std.proofs.lemmas.Map.Lookups.{exact_unsigned}
use Rattle.std.proofs.lemmas.Map.Views.{btree_set_contains_iff, tells_apart}
use Rattle.std.proofs.lemmas.Slice.Eq.{bytes_eq-Decides}
use Rattle.mx_base.specs.Objects.{is_object_name, IsObjectName, object_path}
use Rattle.mx_base.specs.Paths.{commit_instant}
use Rattle.mx_base.specs.declared.object_name.ObjectName.{ObjectName}
use Rattle.mx_base.specs.declared.object_name.ObjectName.TheVariants.{Log}
use Rattle.mx_meta.specs.PathLists.{path_list_of}
use Rattle.mx_meta.specs.declared.path_list.PathList.{PathList}
use Rattle.mx_store.specs.Objects.{Objects, at_path, paths_with}
use Rattle.mx_store.proofs.Keys.{in_paths, paths_stand}
use Rattle.mx_folder.specs.Named.{object_at, commit_name, is_hidden, IsHidden}
use Rattle.mx_folder.specs.Actions.{IsCompleted}
use Rattle.mx_folder.specs.Pending.{requested_name, inflight_name, inflight_files, IsPending, ArePicked, IsLeft, instants_of, ArePending}
use Rattle.mx_folder.specs.Reading.{IsLogOf}
use Rattle.mx_folder.specs.declared.pending.Pending.{Pending}
use Rattle.mx_folder.proofs.NamedLemmas.{object_at-is, object_at-stands, is_some_same, path_of_commit, commit_of_path}
use Rattle.mx_folder.proofs.PendingLemmas.{hidden_object}
use Rattle.mx_open.specs.Leaving.{is_at, begins, is_pending_by, AreNamesOf, logs_in, PicksNext, AddsAt, AreLogged, files_in, files_at, leftover}

-- ---- tests

not_true : (b : Bool) → not b ≡ true → b ≢ true
not_true true is holds = absurd (cc is)
not_true false is holds = absurd (cc holds)

-- ---- the commit that a path begins

begun_path : (q : ℕ) (path : List ℕ) → begins q path ≡ true → IsObjectName (requested_name q) × ((path ≡ object_path (requested_name q)) ⊎ (path ≡ object_path (inflight_name q)))
begun_path q path is =
    let parts = and_parts (is_object_name (requested_name q)) (bytes_eq path (object_path (requested_name q)) || bytes_eq path (object_path (inflight_name q))) is in (
      parts.0,
      ⊎_elim (λ (r : bytes_eq path (object_path (requested_name q)) ≡ true). inl ((bytes_eq-Decides path (object_path (requested_name q))).0 r))
          (λ (r : bytes_eq path (object_path (inflight_name q)) ≡ true). inr ((bytes_eq-Decides path (object_path (inflight_name q))).0 r))
          (or_cases (bytes_eq path (object_path (requested_name q))) (bytes_eq path (object_path (inflight_name q))) parts.1),
    )

path_requested : (q : ℕ) (path : List ℕ) → IsObjectName (requested_name q) → path ≡ object_path (requested_name q) → begins q path ≡ true
path_requested q path named is =
    and_from (is_object_name (requested_name q)) (bytes_eq path (object_path (requested_name q)) || bytes_eq path (object_path (inflight_name q))) named
    (or_left (bytes_eq path (object_path (requested_name q))) (bytes_eq path (object_path (inflight_name q))) ((bytes_eq-Decides path (object_path (requested_name q))).1 is))

path_inflight : (q : ℕ) (path : List ℕ) → IsObjectName (inflight_name q) → path ≡ object_path (inflight_name q) → begins q path ≡ true
path_inflight q path named is =
    and_from (is_object_name (requested_name q)) (bytes_eq path (object_path (requested_name q)) || bytes_eq path (object_path (inflight_name q))) named
    (or_right (bytes_eq path (object_path (requested_name q))) (bytes_eq path (object_path (inflight_name q))) ((bytes_eq-Decides path (object_path (inflight_name q))).1 is))

-- ---- the commit that a path completes

commit_is : (path : List ℕ) (q : ℕ) → is_at q (commit_instant path) ≡ true → IsObjectName (commit_name q) × (path ≡ object_path (commit_name q))
commit_is path q test = from (commit_instant path) refl test
  where
    from : (found : Option ℕ) → commit_instant path ≡ found → is_at q found ≡ true → IsObjectName (commit_name q) × (path ≡ object_path (commit_name q))
    from None is test = absurd (cc test)
    from (Some n) is test = path_of_commit path q (is ∙ ap (λ (x : ℕ). Some x) (eqb-true n q test))

is_commit : (q : ℕ) → IsObjectName (commit_name q) → is_at q (commit_instant (object_path (commit_name q))) ≡ true
is_commit q named = ap (is_at q) (commit_of_path (object_path (commit_name q)) q named refl) ∙ eq-eqb q q refl

-- ---- the instants that the names of a folder tell

module _ (o : Objects) (names : List (List ℕ)) (all : names ≡ filter is_hidden (finmap.keys o)) where
  in_names : (path : List ℕ) → IsHidden path → IsSome (at_path o path) → Contains names path
  in_names path hidden stands = subst (λ (ps : List (List ℕ)). Contains ps path) (sym all) (in_paths (codes ".hoodie/") o path stands hidden)

  of_names : (path : List ℕ) → Contains names path → IsSome (at_path o path)
  of_names path among =
      All-contains (λ (q : List ℕ). IsSome (at_path o q)) (paths_with (codes ".hoodie/") o) path (paths_stand (codes ".hoodie/") o)
      (subst (λ (ps : List (List ℕ)). Contains ps path) all among)

  stands_named : (name : ObjectName) (path : List ℕ) → IsObjectName name → path ≡ object_path name → Contains names path → IsSome (object_at o name)
  stands_named name path named is among = is_some_same _ _ (object_at-is o name named ∙ ap (at_path o) (sym is)) (of_names path among)

  pub named_among : (name : ObjectName) → IsSome (object_at o name) → IsObjectName name × Contains names (object_path name)
  named_among name stands = let found = object_at-stands o name stands in (found.0, in_names (object_path name) (hidden_object name) found.1)

  module _ (completed : BTreeSet ℕ) (noted : (q : ℕ) → contains nat_cmp completed q ≡ list_any (λ path. is_at q (commit_instant path)) names) where
    completed_is : (q : ℕ) → IsTrue (contains nat_cmp completed q) → IsCompleted o q
    completed_is q has =
        let any = Any-from_list_any (λ path. is_at q (commit_instant path)) names (sym (noted q) ∙ has) in
        let is = commit_is any.1 q any.4 in
        stands_named (commit_name q) any.1 is.0 is.1 (any.0, any.2, any.3)

    is_completed : (q : ℕ) → IsCompleted o q → contains nat_cmp completed q ≡ true
    is_completed q done =
        let found = named_among (commit_name q) done in
        noted q ∙ list_any-from_Any (λ path. is_at q (commit_instant path)) names (found.1.0, object_path (commit_name q), found.1.1, found.1.2, is_commit q found.0)

    module _ (instants : BTreeSet ℕ) (begun : (q : ℕ) → contains nat_cmp instants q ≡ list_any (is_pending_by completed q) names) where
      pending_is : (q : ℕ) → IsTrue (contains nat_cmp instants q) → IsPending o q
      pending_is q has =
          let any = Any-from_list_any (is_pending_by completed q) names (sym (begun q) ∙ has) in
          let parts = and_parts (begins q any.1) (not (contains nat_cmp completed q)) any.4 in
          let is = begun_path q any.1 parts.0 in (
            ⊎_elim (λ (r : any.1 ≡ object_path (requested_name q)). inl (stands_named (requested_name q) any.1 is.0 r (any.0, any.2, any.3)))
                (λ (r : any.1 ≡ object_path (inflight_name q)). inr (stands_named (inflight_name q) any.1 is.0 r (any.0, any.2, any.3)))
                is.1,
            λ done. not_true (contains nat_cmp completed q) parts.1 (is_completed q done),
          )

      is_pending : (q : ℕ) → IsPending o q → IsTrue (contains nat_cmp instants q)
      is_pending q (standing, pending) =
          begun q ∙ ⊎_elim
          (λ (r : IsSome (object_at o (requested_name q))). let found = named_among (requested_name q) r in one (object_path (requested_name q)) found.1 (path_requested q (object_path (requested_name q)) found.0 refl))
          (λ (r : IsSome (object_at o (inflight_name q))). let found = named_among (inflight_name q) r in one (object_path (inflight_name q)) found.1 (path_inflight q (object_path (inflight_name q)) found.0 refl))
          standing
        where
          absent : contains nat_cmp completed q ≡ false
          absent = false_from_ne_true (contains nat_cmp completed q) (λ has. pending (completed_is q has))

          one : (path : List ℕ) → Contains names path → begins q path ≡ true → list_any (is_pending_by completed q) names ≡ true
          one path among test =
              list_any-from_Any (is_pending_by completed q) names
              (among.0, path, among.1, among.2, and_from (begins q path) (not (contains nat_cmp completed q)) test (not_from_false (contains nat_cmp completed q) absent))

-- ---- elements that are picked

picked_next : (P : List ℕ → Type 0) (xs picked new : List (List ℕ)) (x : List ℕ) → ArePicked P xs picked → PicksNext P x picked new → ArePicked P (xs ++ x ∷ []) new
picked_next P [] picked new x none (inl (holds, is)) = inl (holds, ([], is ∙ ap (λ (l : List (List ℕ)). l ++ x ∷ []) none, refl))
picked_next P [] picked new x none (inr (out, is)) = inr (out, is ∙ none)
picked_next P (y ∷ xs) picked new x (inl (holds, (rest, is, more))) (inl (here, same)) =
    inl (holds, (rest ++ x ∷ [], same ∙ ap (λ (l : List (List ℕ)). l ++ x ∷ []) is, picked_next P xs rest (rest ++ x ∷ []) x more (inl (here, refl))))
picked_next P (y ∷ xs) picked new x (inl (holds, (rest, is, more))) (inr (here, same)) = inl (holds, (rest, same ∙ is, picked_next P xs rest rest x more (inr (here, refl))))
picked_next P (y ∷ xs) picked new x (inr (other, more)) next = inr (other, picked_next P xs picked new x more next)

pub picked_more : (P : List ℕ → Type 0) (xs picked new : List (List ℕ)) (i : ℕ) (x : List ℕ) → i < length xs → x ≡ get_or xs i x → ArePicked P (take i xs) picked → PicksNext P x picked new → ArePicked P (take (i + 1) xs) new
picked_more P xs picked new i x within is before next =
    subst (λ (ps : List (List ℕ)). ArePicked P ps new) (sym (take_more xs i x within ∙ ap (λ (y : List ℕ). take i xs ++ y ∷ []) (sym is))) (picked_next P (take i xs) picked new x before next)

picked_among : (P : List ℕ → Type 0) (h : List ℕ → Bool) → ((x : List ℕ) → P x → h x ≡ true) → (xs picked : List (List ℕ)) → ArePicked P (filter h xs) picked → ArePicked P xs picked
picked_among P h passes [] picked is = is
picked_among P h passes (x ∷ xs) picked is = from (h x) refl (picked_among P h passes xs) is
  where
    from : (b : Bool) → h x ≡ b → ((ps : List (List ℕ)) → ArePicked P (filter h xs) ps → ArePicked P xs ps) → ArePicked P (cond b (x ∷ filter h xs) (filter h xs)) picked → ArePicked P (x ∷ xs) picked
    from true here further (inl (holds, (rest, same, more))) = inl (holds, (rest, same, further rest more))
    from true here further (inr (other, more)) = inr (other, further picked more)
    from false here further more = inr (λ holds. absurd (cc (sym here ∙ passes x holds)), further picked more)

log_hidden : (at : ℕ) (path : List ℕ) → IsLogOf at path → is_hidden path ≡ true
log_hidden at path (part, shard, named, is) = ap is_hidden is ∙ hidden_object (Log part shard at)

-- ---- paths under instants

log_test : (at q : ℕ) → eq_by_cmp nat_cmp at q ≡ false → q ≢ at
log_test at q is same = absurd (cc (sym is ∙ ap (eq_by_cmp nat_cmp at) same ∙ (eq_by_cmp_equiv nat_cmp_total).refl at))

other_test : (at q : ℕ) → q ≢ at → eq_by_cmp nat_cmp at q ≡ false
other_test at q other = false_from_ne_true (eq_by_cmp nat_cmp at q) (λ same. other (sym (tells_apart exact_unsigned at q same)))

pub log_taken : (at : ℕ) (old mid : BTreeMap ℕ (List (List ℕ))) → tree.Updates nat_cmp old mid at None → (q : ℕ) → q ≢ at → logs_in mid q ≡ logs_in old q
log_taken at old mid updates q other = ap (λ (o : Option (List (List ℕ))). unwrap_or o []) (updates.0 q ∙ ap (λ (b : Bool). cond b None (tree.get nat_cmp old q)) (other_test at q other))

pub log_added : (at : ℕ) (path : List ℕ) (old mid new : BTreeMap ℕ (List (List ℕ))) (paths : List (List ℕ)) → paths ≡ logs_in old at ++ path ∷ [] → ((q : ℕ) → q ≢ at → logs_in mid q ≡ logs_in old q)
    → tree.Updates nat_cmp mid new at (Some paths) → (q : ℕ) → AddsAt at path old new q
log_added at path old mid new paths is kept updates q = from (eq_by_cmp nat_cmp at q) refl
  where
    found : (b : Bool) → eq_by_cmp nat_cmp at q ≡ b → logs_in new q ≡ unwrap_or (cond b (Some paths) (tree.get nat_cmp mid q)) []
    found b test = ap (λ (o : Option (List (List ℕ))). unwrap_or o []) (updates.0 q ∙ ap (λ (b : Bool). cond b (Some paths) (tree.get nat_cmp mid q)) test)

    from : (b : Bool) → eq_by_cmp nat_cmp at q ≡ b → AddsAt at path old new q
    from true test = let same : q ≡ at = sym (tells_apart exact_unsigned at q test) in inl (same, found true test ∙ is ∙ ap (λ (t : ℕ). logs_in old t ++ path ∷ []) (sym same))
    from false test = let other : q ≢ at = log_test at q test in inr (other, found false test ∙ kept q other)

pub log_kept : (at : ℕ) (path : List ℕ) (logs : BTreeMap ℕ (List (List ℕ))) (instants : BTreeSet ℕ) → contains nat_cmp instants at ≡ false → (q : ℕ) → IsTrue (contains nat_cmp instants q) → AddsAt at path logs logs q
log_kept at path logs instants out q has = inr (λ same. absurd (cc (sym has ∙ ap (contains nat_cmp instants) same ∙ out)), refl)

pub log_next : (at : ℕ) (path : List ℕ) (old new : BTreeMap ℕ (List (List ℕ))) (q : ℕ) → IsLogOf at path → ((t : ℕ) → IsLogOf t path → at ≡ t) → AddsAt at path old new q → PicksNext (IsLogOf q) path (logs_in old q) (logs_in new q)
log_next at path old new q log only (inl (same, added)) = inl (subst (λ (t : ℕ). IsLogOf t path) (sym same) log, added)
log_next at path old new q log only (inr (other, kept)) = inr (λ other_log. other (sym (only q other_log)), kept)

pub files_found : (held : Objects) (at : ℕ) (path bytes text : List ℕ) → path ≡ object_path (inflight_name at) → Some bytes ≡ at_path held path → text ≡ bytes → files_in text ≡ files_at held at
files_found held at path bytes text is stands same =
    ap files_in same ∙ ap (λ (b : Option (List ℕ)). option_map_or (λ (list : PathList). list.paths) (option_and_then path_list_of b) []) (stands ∙ ap (at_path held) is)

pub files_none : (held : Objects) (at : ℕ) (path : List ℕ) → path ≡ object_path (inflight_name at) → None ≡ at_path held path → [] ≡ files_at held at
files_none held at path is none = ap (λ (b : Option (List ℕ)). option_map_or (λ (list : PathList). list.paths) (option_and_then path_list_of b) []) (none ∙ ap (at_path held) is)

-- ---- what the pending commits left

instants_mapped : (held : Objects) (logs : BTreeMap ℕ (List (List ℕ))) (ks : List ℕ) → instants_of (map (leftover held logs) ks) ≡ ks
instants_mapped held logs [] = refl
instants_mapped held logs (k ∷ ks) = ap (λ (l : List ℕ). k ∷ l) (instants_mapped held logs ks)

files_same : (o held : Objects) (at : ℕ) → IsObjectName (inflight_name at) → object_at held (inflight_name at) ≡ object_at o (inflight_name at) → files_at held at ≡ inflight_files o at
unfolding inflight_files
files_same o held at named same = ap (λ (b : Option (List ℕ)). option_map_or (λ (list : PathList). list.paths) (option_and_then path_list_of b) []) (sym (object_at-is held (inflight_name at) named) ∙ same)

begun_name : (o : Objects) (at : ℕ) → IsPending o at → IsObjectName (inflight_name at)
begun_name o at (inl requested, pending) = (object_at-stands o (requested_name at) requested).0
begun_name o at (inr inflight, pending) = (object_at-stands o (inflight_name at) inflight).0

pub are_pending : (o held : Objects) (names : List (List ℕ)) (completed instants : BTreeSet ℕ) (logs : BTreeMap ℕ (List (List ℕ))) (left : List Pending) → AreNamesOf o held names
    → ((q : ℕ) → contains nat_cmp completed q ≡ list_any (λ path. is_at q (commit_instant path)) names) → ((q : ℕ) → contains nat_cmp instants q ≡ list_any (is_pending_by completed q) names)
    → AreLogged instants names logs → left ≡ map (leftover held logs) instants.keys → IsStrictlySortedBy nat_cmp instants.keys → ArePending o left
are_pending o held names completed instants logs left named noted begun logged is rising =
    subst (ArePending o) (sym is) (record {
      rising = subst (IsStrictlySortedBy nat_cmp) (sym (instants_mapped held logs instants.keys)) rising;
      each = All-map (IsLeft o) (leftover held logs) instants.keys (All-weaker (Contains instants.keys) (λ (at : ℕ). IsLeft o (leftover held logs at)) each instants.keys (All-contains_itself instants.keys));
      all = λ at pending. subst (λ (ks : List ℕ). Contains ks at) (sym (instants_mapped held logs instants.keys)) ((btree_set_contains_iff nat_cmp_total exact_unsigned instants at).0 (is_pending o names named.all completed noted instants begun at pending));
    })
  where
    each : (at : ℕ) → Contains instants.keys at → IsLeft o (leftover held logs at)
    each at among =
        let has : IsTrue (contains nat_cmp instants at) = (btree_set_contains_iff nat_cmp_total exact_unsigned instants at).1 among in
        record {
          pending = pending_is o names named.all completed noted instants begun at has;
          logs = picked_among (IsLogOf at) is_hidden (log_hidden at) (finmap.keys o) (logs_in logs at) (subst (λ (ps : List (List ℕ)). ArePicked (IsLogOf at) ps (logs_in logs at)) named.all (logged at has));
          files = files_same o held at (begun_name o at (pending_is o names named.all completed noted instants begun at has)) (named.same (inflight_name at));
        }

-- ---- two facts of a value that is there

pub ok_both : {X E : Type 0} {P Q R : X → Type 0} (r : Result X E) → ((x : X) → P x → Q x → R x) → IfOk r P → IfOk r Q → IfOk r R
ok_both (Ok x) both p q = both x p q
ok_both (Err e) both p q = tt
