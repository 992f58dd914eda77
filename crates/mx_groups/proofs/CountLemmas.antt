-- How many files the completed commits list.
use Rattle.std.proofs.Common.{◌≡◌, ◌≢◌, ◌⊎◌, inl, inr, ⊎_elim, ℕ, zero, suc, ◌+◌, ◌-◌, ◌^◌, ◌<◌, ◌≤◌, arith, Bool, true, false, cond, List, [], ◌∷◌, ◌++◌, length, map, Option, Some, None, IsSome, refl, sym, ◌∙◌, ap, subst}
use Rattle.std.specs.Prelude.{All, min, nat_eq, unwrap_or}
use Rattle.std.specs.BTreeMap as tree
use Rattle.std.specs.BTreeMap.{is_at}
use Rattle.std.specs.List.{flat_map, sum_by}
use Rattle.std.specs.List.Sorted.{IsStrictlySortedBy}
use Rattle.std.specs.Map.{keys_of, values_of, lookup}
use Rattle.std.specs.Option.{option_map_or, option_to_list}
use Rattle.std.specs.Ordering.{nat_cmp}
use Rattle.std.proofs.Math.Nat.{eq-or-lt_of_le}
use Rattle.std.proofs.lemmas.Bool.Decides.{eqb_tells}
use Rattle.std.proofs.lemmas.Grind.{flat_map-append}
use Rattle.std.proofs.lemmas.List.{append-nil, length-append, length-map}
use Rattle.std.proofs.lemmas.List.Concat.{flat_map-cons}
use Rattle.std.proofs.lemmas.List.Elements.{All-head, All-tail}
use Rattle.std.proofs.lemmas.List.Sums.{sum_by-append, sum_by-cons}
use Rattle.std.proofs.lemmas.Map.Keys.{sorted_tail}
use Rattle.mx_base.specs.Paths.{group_name}
use Rattle.mx_base.specs.declared.entry.FileAt.{FileAt}
use Rattle.mx_meta.specs.declared.commit_meta.PartitionStats.{PartitionStats}
use Rattle.mx_meta.specs.declared.commit_meta.WriteStat.{WriteStat}
use Rattle.mx_model.specs.Listing.{file_of, files_of, listed_files}
use Rattle.mx_model.specs.declared.action.Action.{Action}
use Rattle.mx_store.specs.Objects.{Objects}
use Rattle.mx_folder.specs.Actions.{action_at, actions_upto}
use Rattle.mx_folder.proofs.CompletedLemmas.{head_below}
use Rattle.mx_groups.specs.declared.groups.Groups.{Groups}
use Rattle.mx_groups.specs.Groups.{groups_of, groups_at, count_in, AreGroupsOf, AreAllUpto, CountsLive}
use Rattle.mx_groups.proofs.GroupLemmas.{mapped_push, same_test}

-- ---- the loop

abbrev count_all : List (List (List ℕ)) → ℕ
count_all listed = sum_by (λ groups. length groups) listed

pub count_next : {A : Type 0} (view : A → List (List ℕ)) (given : List A) (x : A) (before after : ℕ) → before ≡ min (2 ^ 64 - 1) (count_all (map view given)) → after ≡ min (before + length (view x)) (2 ^ 64 - 1)
    → after ≡ min (2 ^ 64 - 1) (count_all (map view (given ++ x ∷ [])))
count_next view given x before after so_far more =
    capped (count_all (map view given)) (length (view x)) before after so_far more
    ∙ ap (min (2 ^ 64 - 1)) (sym (ap count_all (mapped_push view given x) ∙ sum_by-append (λ groups. length groups) (map view given) (view x ∷ []) ∙ ap (λ (n : ℕ). count_all (map view given) + n) (sum_by-cons (λ groups. length groups) (view x) [])
    ∙ last (count_all (map view given)) (length (view x))))
  where
    capped : (all one before after : ℕ) → before ≡ min (2 ^ 64 - 1) all → after ≡ min (before + one) (2 ^ 64 - 1) → after ≡ min (2 ^ 64 - 1) (all + one)
    capped all one before after so_far more = grind (arith, so_far, more)

    last : (all one : ℕ) → all + (one + 0) ≡ all + one
    last all one = omega arith

-- ---- sums over the instants up to one

abbrev sum_upto : (ℕ → ℕ) → ℕ → ℕ
sum_upto f zero = f zero
sum_upto f (suc at) = sum_upto f at + f (suc at)

sums_same : (f g : ℕ → ℕ) (at : ℕ) → ((q : ℕ) → q ≤ at → f q ≡ g q) → sum_upto f at ≡ sum_upto g at
sums_same f g zero same = same zero (omega arith)
sums_same f g (suc at) same =
    ap (λ (n : ℕ). n + f (suc at)) (sums_same f g at (λ q within. same q (omega (arith, within))))
    ∙ ap (λ (n : ℕ). sum_upto g at + n) (same (suc at) (omega arith))

sums_none : (at : ℕ) → sum_upto (λ q. 0) at ≡ 0
sums_none zero = refl
sums_none (suc at) = ap (λ (n : ℕ). n + 0) (sums_none at)

module _ (f g : ℕ → ℕ) (k v : ℕ) (here : f k ≡ v) (none : g k ≡ 0) (others : (q : ℕ) → q ≢ k → f q ≡ g q) where
  sums_one : (at : ℕ) → k ≤ at → sum_upto f at ≡ v + sum_upto g at
  sums_one zero within =
      let first : k ≡ 0 = omega (arith, within) in
      let value : f 0 ≡ v = subst (λ (n : ℕ). f n ≡ v) first here in
      let nothing : g 0 ≡ 0 = subst (λ (n : ℕ). g n ≡ 0) first none in
      value ∙ sym (ap (λ (n : ℕ). v + n) nothing ∙ no_more v)
    where
      no_more : (n : ℕ) → n + 0 ≡ n
      no_more n = omega arith
  sums_one (suc at) within = ⊎_elim
      (λ (last : k ≡ suc at).
      let value : f (suc at) ≡ v = subst (λ (n : ℕ). f n ≡ v) last here in
      let nothing : g (suc at) ≡ 0 = subst (λ (n : ℕ). g n ≡ 0) last none in
      added (sum_upto f at) (sum_upto g at) (f (suc at)) (g (suc at)) (sums_same f g at (λ q upto. others q (λ same. absurd (omega (arith, same, upto, last))))) value nothing)
      (λ (before : k < suc at).
      later (sum_upto f at) (sum_upto g at) (f (suc at)) (g (suc at)) (sums_one at (omega (arith, before))) (others (suc at) (λ same. absurd (omega (arith, same, before)))))
      (eq-or-lt_of_le within)
    where
      added : (a b x y : ℕ) → a ≡ b → x ≡ v → y ≡ 0 → a + x ≡ v + (b + y)
      added a b x y same value nothing = omega (arith, same, value, nothing)

      later : (a b x y : ℕ) → a ≡ v + b → x ≡ y → a + x ≡ v + (b + y)
      later a b x y before same = omega (arith, before, same)

  sums_more : (at : ℕ) → (k ≤ at) ⊎ (v ≡ 0) → sum_upto f at ≡ v + sum_upto g at
  sums_more at (inl within) = sums_one at within
  sums_more at (inr empty) = unchanged (sum_upto f at) (sum_upto g at) (sums_same f g at (λ q upto. ⊎_elim
      (λ (same : (nat_eq q k ≡ true) × (q ≡ k)). ap f same.1 ∙ here ∙ empty ∙ sym (ap g same.1 ∙ none))
      (λ (other : (nat_eq q k ≡ false) × (q ≢ k)). others q other.1)
      (eqb_tells q k)))
    where
      unchanged : (a b : ℕ) → a ≡ b → a ≡ v + b
      unchanged a b same = omega (arith, same, empty)

-- ---- over the entries of a map

abbrev count_at : List (ℕ × List (List ℕ)) → ℕ → ℕ
count_at entries q = length (unwrap_or (lookup (is_at (nat_cmp q)) entries) [])

count_cond : (b : Bool) (groups : List (List ℕ)) (rest : Option (List (List ℕ))) → length (unwrap_or (cond b (Some groups) rest) []) ≡ cond b (length groups) (length (unwrap_or rest []))
count_cond true groups rest = refl
count_cond false groups rest = refl

count_head : (e : ℕ × List (List ℕ)) (entries : List (ℕ × List (List ℕ))) (q : ℕ) → count_at (e ∷ entries) q ≡ cond (nat_eq e.0 q) (length e.1) (count_at entries q)
count_head e entries q = count_cond (is_at (nat_cmp q) e.0) e.1 (lookup (is_at (nat_cmp q)) entries) ∙ ap (λ (b : Bool). cond b (length e.1) (count_at entries q)) (same_test q e.0)

count_here : (e : ℕ × List (List ℕ)) (entries : List (ℕ × List (List ℕ))) (q : ℕ) → e.0 ≡ q → count_at (e ∷ entries) q ≡ length e.1
count_here e entries q same = ⊎_elim
    (λ (is : (nat_eq e.0 q ≡ true) × (e.0 ≡ q)). count_head e entries q ∙ ap (λ (b : Bool). cond b (length e.1) (count_at entries q)) is.0)
    (λ (no_case : (nat_eq e.0 q ≡ false) × (e.0 ≢ q)). absurd (no_case.1 same))
    (eqb_tells e.0 q)

count_past : (e : ℕ × List (List ℕ)) (entries : List (ℕ × List (List ℕ))) (q : ℕ) → e.0 ≢ q → count_at (e ∷ entries) q ≡ count_at entries q
count_past e entries q differ = ⊎_elim
    (λ (no_case : (nat_eq e.0 q ≡ true) × (e.0 ≡ q)). absurd (differ no_case.1))
    (λ (is : (nat_eq e.0 q ≡ false) × (e.0 ≢ q)). count_head e entries q ∙ ap (λ (b : Bool). cond b (length e.1) (count_at entries q)) is.0)
    (eqb_tells e.0 q)

count_below : (entries : List (ℕ × List (List ℕ))) (q : ℕ) → All (λ t. q < t) (keys_of entries) → count_at entries q ≡ 0
count_below [] q above = refl
count_below (e ∷ entries) q above =
    let first : q < e.0 = All-head (λ t. q < t) e.0 (keys_of entries) above in
    count_past e entries q (λ same. absurd (omega (arith, same, first))) ∙ count_below entries q (All-tail (λ t. q < t) e.0 (keys_of entries) above)

counts_sum : (entries : List (ℕ × List (List ℕ))) (at : ℕ) → IsStrictlySortedBy nat_cmp (keys_of entries) → ((q : ℕ) → at < q → count_at entries q ≡ 0) → count_all (values_of entries) ≡ sum_upto (count_at entries) at
counts_sum [] at sorted beyond = sym (sums_none at)
counts_sum (e ∷ entries) at sorted beyond =
    sum_by-cons (λ groups. length groups) e.1 (values_of entries)
    ∙ ap (λ (n : ℕ). length e.1 + n) (counts_sum entries at (sorted_tail nat_cmp e.0 (keys_of entries) sorted) rest_beyond)
    ∙ sym (sums_more (count_at (e ∷ entries)) (count_at entries) e.0 (length e.1) (count_here e entries e.0 refl) absent (λ q differ. count_past e entries q (λ same. differ (sym same))) at (within (nat_cases e.0 at)))
  where
    absent : count_at entries e.0 ≡ 0
    absent = count_below entries e.0 (head_below e.0 (keys_of entries) sorted)

    nat_cases : (a b : ℕ) → (a ≤ b) ⊎ (b < a)
    nat_cases a b = grind arith

    within : (e.0 ≤ at) ⊎ (at < e.0) → (e.0 ≤ at) ⊎ (length e.1 ≡ 0)
    within (inl upto) = inl upto
    within (inr above) = inr (sym (count_here e entries e.0 refl) ∙ beyond e.0 above)

    rest_beyond : (q : ℕ) → at < q → count_at entries q ≡ 0
    rest_beyond q above = ⊎_elim
        (λ (same : (nat_eq e.0 q ≡ true) × (e.0 ≡ q)). subst (λ (n : ℕ). count_at entries n ≡ 0) same.1 absent)
        (λ (other : (nat_eq e.0 q ≡ false) × (e.0 ≢ q)). sym (count_past e entries q other.1) ∙ beyond q above)
        (eqb_tells e.0 q)

-- ---- over the commits

abbrev files_in : ℕ → PartitionStats → List FileAt
files_in at p = map (file_of at p.partition) p.stats

abbrev groups_of_stats : PartitionStats → List (List ℕ)
groups_of_stats p = map (λ (s : WriteStat). group_name p.partition s.file_id) p.stats

-- a commit lists as many files as groups
files_length : (at : ℕ) (partitions : List PartitionStats) → length (flat_map (files_in at) partitions) ≡ length (flat_map groups_of_stats partitions)
files_length at [] = refl
files_length at (p ∷ partitions) =
    ap length (flat_map-cons (files_in at) p partitions)
    ∙ length-append (files_in at p) (flat_map (files_in at) partitions)
    ∙ ap (λ (n : ℕ). n + length (flat_map (files_in at) partitions)) (length-map p.stats (file_of at p.partition) ∙ sym (length-map p.stats (λ (s : WriteStat). group_name p.partition s.file_id)))
    ∙ ap (λ (n : ℕ). length (groups_of_stats p) + n) (files_length at partitions)
    ∙ sym (ap length (flat_map-cons groups_of_stats p partitions) ∙ length-append (groups_of_stats p) (flat_map groups_of_stats partitions))

one_length : (a : Option Action) → length (listed_files (option_to_list a)) ≡ length (option_map_or (λ (action : Action). groups_of action.meta) a [])
one_length None = refl
one_length (Some action) = ap length (append-nil (files_of action)) ∙ files_length action.at action.meta.partitions

listed_length : (o : Objects) (at : ℕ) → length (listed_files (actions_upto o at)) ≡ sum_upto (λ q. length (groups_at o q)) at
unfolding actions_upto
listed_length o zero = one_length (action_at o 0)
listed_length o (suc at) =
    ap length (flat_map-append files_of (actions_upto o at) (option_to_list (action_at o (suc at))))
    ∙ length-append (listed_files (actions_upto o at)) (listed_files (option_to_list (action_at o (suc at))))
    ∙ ap (λ (n : ℕ). n + length (listed_files (option_to_list (action_at o (suc at))))) (listed_length o at)
    ∙ ap (λ (n : ℕ). sum_upto (λ q. length (groups_at o q)) at + n) (one_length (action_at o (suc at)))

none_beyond : (o : Objects) (at q : ℕ) → AreAllUpto o at → at < q → groups_at o q ≡ []
none_beyond o at q all above = from (action_at o q) refl
  where
    from : (a : Option Action) → action_at o q ≡ a → groups_at o q ≡ []
    from None is = ap (λ (a : Option Action). option_map_or (λ (action : Action). groups_of action.meta) a []) is
    from (Some action) is = absurd (let upto = all q (subst IsSome (sym is) refl) in omega (arith, upto, above))

pub live_counts : (o : Objects) (groups : Groups) (count : ℕ) → count ≡ min (2 ^ 64 - 1) (count_in groups.commits) → tree.IsOrdered nat_cmp groups.commits → AreGroupsOf o groups → CountsLive o count
live_counts o groups count is ordered are at all =
    is
    ∙ ap (min (2 ^ 64 - 1))
    (counts_sum groups.commits.entries at ordered (λ q above. ap length (are q ∙ none_beyond o at q all above))
    ∙ sums_same (count_at groups.commits.entries) (λ q. length (groups_at o q)) at (λ q within. ap length (are q))
    ∙ sym (listed_length o at))
