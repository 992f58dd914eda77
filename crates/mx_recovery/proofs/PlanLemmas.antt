-- What the opening of a folder works out.
use Rattle.std.proofs.Common.{◌≡◌, ◌≢◌, ◌⊎◌, inl, inr, ⊎_elim, ℕ, ◌+◌, ◌-◌, ◌<◌, ◌≤◌, arith, Bool, true, false, cond, ◌||◌, List, [], ◌∷◌, ◌++◌, length, take, get_or, Option, Some, None, IsSome, IfSome, is_some, refl, sym, ◌∙◌, ap, subst}
use Rattle.std.specs.Prelude.{All, Contains, max, not, filter}
use Rattle.std.specs.BTreeSet.{BTreeSet, contains}
use Rattle.std.specs.Cmp.Lexicographic.{slice_cmp}
use Rattle.std.specs.FinMap as finmap
use Rattle.std.specs.FinMap.{contains_key-keys}
use Rattle.std.specs.List.{flat_map, list_any}
use Rattle.std.specs.Ordering.{nat_cmp, eq_by_cmp}
use Rattle.std.proofs.lemmas.List.{take_all, take_more}
use Rattle.std.proofs.lemmas.List.Elements.{All-contains, All-weaker, Contains-append_left, Contains-push}
use Rattle.mx_base.specs.Objects.{object_path}
use Rattle.mx_base.specs.declared.object_name.ObjectName.TheVariants.{Config}
use Rattle.mx_meta.proofs.JsonLemmas.{named_more}
use Rattle.mx_lists.proofs.TreeLemmas.{turned}
use Rattle.mx_props.specs.Config.{config_text}
use Rattle.mx_store.specs.Objects.{Objects, at_path, after_all}
use Rattle.mx_store.specs.declared.change.Change.{Change}
use Rattle.mx_store.specs.declared.change.Change.TheVariants.{Delete}
use Rattle.mx_store.proofs.Keys.{in_keys, stands_from_keys}
use Rattle.mx_store.proofs.Paths.{cases_path, path_same, path_other, at_left, at_removed}
use Rattle.mx_folder.specs.Named.{is_hidden}
use Rattle.mx_folder.specs.Folder.{IsOpenable}
use Rattle.mx_folder.specs.Pending.{deletes, left_by, recovery_changes}
use Rattle.mx_folder.specs.declared.pending.Pending.{Pending}
use Rattle.mx_folder.proofs.ElementLemmas.{among_here, among_later, among_cases, among_filter}
use Rattle.mx_folder.proofs.NamedLemmas.{object_at-is, after_all-append}
use Rattle.mx_groups.proofs.GroupLemmas.{max_cases}
use Rattle.mx_world.specs.Instants.{NamesInstant}
use Rattle.mx_world.specs.Mirror.{IsNoConfig}
use Rattle.mx_open.specs.Opening.{IsFolderOf}
use Rattle.mx_open.specs.declared.folder.Folder.{Folder}
use Rattle.mx_recovery.specs.Recovering.{IsLast, NamedIn}
use Rattle.mx_recovery.specs.Planning.{IsGreatestOf, GoesOver, IsLastOf, stands_among, AreStanding}
use Rattle.mx_recovery.proofs.DeleteLemmas.{deletes-append}
use Rattle.mx_recovery.proofs.LeftLemmas.{all_may_go, no_config}

-- ---- the greatest instant

abbrev UptoAt : ℕ → List ℕ → Type 0
UptoAt greatest path = (at : ℕ) → NamesInstant path at → at ≤ greatest

pub greatest_start : (start : ℕ) → IsGreatestOf start [] start
greatest_start start = record { least = omega arith; upto = λ k d within. absurd (omega (arith, within)); either = inl refl }

pub greatest_next : (start : ℕ) (paths : List (List ℕ)) (i : ℕ) (path : List ℕ) (greatest after : ℕ) (found : Option ℕ) → i < length paths → path ≡ get_or paths i path → IsGreatestOf start (take i paths) greatest
    → IfSome found (NamesInstant path) → ((at : ℕ) → NamesInstant path at → found ≡ Some at) → GoesOver greatest found after → IsGreatestOf start (take (i + 1) paths) after
greatest_next start paths i path greatest after None within is before named only same = record {
  least = subst (λ (n : ℕ). start ≤ n) (sym same) before.least;
  upto = named_more (UptoAt after) paths i path (All-weaker (UptoAt greatest) (UptoAt after) (λ other upto. subst (λ (n : ℕ). UptoAt n other) (sym same) upto) (take i paths) before.upto) (λ at names. absurd (cc (only at names))) within is;
  either = subst (λ (n : ℕ). (n ≡ start) ⊎ ((other : List ℕ) × Contains (take (i + 1) paths) other × NamesInstant other n)) (sym same) (earlier paths i path within start greatest before.either);
}
  where
    earlier : (paths : List (List ℕ)) (i : ℕ) (path : List ℕ) → i < length paths → (start greatest : ℕ) → (greatest ≡ start) ⊎ ((other : List ℕ) × Contains (take i paths) other × NamesInstant other greatest)
        → (greatest ≡ start) ⊎ ((other : List ℕ) × Contains (take (i + 1) paths) other × NamesInstant other greatest)
    earlier paths i path within start greatest (inl same) = inl same
    earlier paths i path within start greatest (inr (other, among, names)) = inr (other, subst (λ (ps : List (List ℕ)). Contains ps other) (sym (take_more paths i path within)) (Contains-append_left (take i paths) _ other among), names)
greatest_next start paths i path greatest after (Some n) within is before named only same = record {
  least = let low = before.least in omega (arith, low, same);
  upto =
      named_more (UptoAt after) paths i path (All-weaker (UptoAt greatest) (UptoAt after) (λ other upto at names. let low = upto at names in omega (arith, low, same)) (take i paths) before.upto)
      (λ at names. let one : n ≡ at = cc (only at names) in omega (arith, one, same))
      within is;
  either = from (max_cases greatest n) before.either;
}
  where
    last : Contains (take (i + 1) paths) path
    last = subst (λ (ps : List (List ℕ)). Contains ps path) (sym (take_more paths i path within ∙ ap (λ (y : List ℕ). take i paths ++ y ∷ []) (sym is))) (Contains-push (take i paths) path)

    from : (max greatest n ≡ greatest) ⊎ (max greatest n ≡ n) → (greatest ≡ start) ⊎ ((other : List ℕ) × Contains (take i paths) other × NamesInstant other greatest)
        → (after ≡ start) ⊎ ((other : List ℕ) × Contains (take (i + 1) paths) other × NamesInstant other after)
    from (inr newer) before = inr (path, last, subst (NamesInstant path) (sym (same ∙ newer)) named)
    from (inl older) (inl first) = inl (same ∙ older ∙ first)
    from (inl older) (inr (other, among, names)) =
        inr (other, subst (λ (ps : List (List ℕ)). Contains ps other) (sym (take_more paths i path within)) (Contains-append_left (take i paths) _ other among), subst (NamesInstant other) (sym (same ∙ older)) names)

pub greatest_all : (start : ℕ) (paths : List (List ℕ)) (i greatest : ℕ) → length paths ≤ i → IsGreatestOf start (take i paths) greatest → IsGreatestOf start paths greatest
greatest_all start paths i greatest whole is = subst (λ (ps : List (List ℕ)). IsGreatestOf start ps greatest) (take_all i paths whole) is

-- ---- the names and the others are all paths

of_filter : (p : List ℕ → Bool) (xs : List (List ℕ)) (x : List ℕ) → Contains (filter p xs) x → Contains xs x
of_filter p [] x among = among
of_filter p (y ∷ xs) x among = step (p y) (of_filter p xs x) among
  where
    step : (b : Bool) → (Contains (filter p xs) x → Contains xs x) → Contains (cond b (y ∷ filter p xs) (filter p xs)) x → Contains (y ∷ xs) x
    step true further c = from (among_cases x y (filter p xs) c)
      where
        from : (y ≡ x) ⊎ Contains (filter p xs) x → Contains (y ∷ xs) x
        from (inl here) = subst (Contains (y ∷ xs)) here (among_here y xs)
        from (inr there) = among_later x y xs (further there)
    step false further c = among_later x y xs (further c)

any_parted : (p h : List ℕ → Bool) (xs : List (List ℕ)) → (list_any p (filter h xs) || list_any p (filter (λ x. not (h x)) xs)) ≡ list_any p xs
any_parted p h [] = refl
any_parted p h (x ∷ xs) = step (h x) (p x) (any_parted p h xs)
  where
    step : (b c : Bool) → (list_any p (filter h xs) || list_any p (filter (λ x. not (h x)) xs)) ≡ list_any p xs
        → (list_any p (cond b (x ∷ filter h xs) (filter h xs)) || list_any p (cond (not b) (x ∷ filter (λ x. not (h x)) xs) (filter (λ x. not (h x)) xs))) ≡ (p x || list_any p xs)
    step true c is = or_assoc (p x) (list_any p (filter h xs)) (list_any p (filter (λ x. not (h x)) xs)) ∙ ap (λ (b : Bool). p x || b) is
      where
        or_assoc : (a b c : Bool) → ((a || b) || c) ≡ (a || (b || c))
        or_assoc true b c = refl
        or_assoc false b c = refl
    step false c is = or_turn (list_any p (filter h xs)) (p x) (list_any p (filter (λ x. not (h x)) xs)) ∙ ap (λ (b : Bool). p x || b) is
      where
        or_turn : (a b c : Bool) → (a || (b || c)) ≡ (b || (a || c))
        or_turn true true c = refl
        or_turn true false c = refl
        or_turn false true c = refl
        or_turn false false c = refl

any_turned : (q : List ℕ) (ks : List (List ℕ)) → list_any (λ (path : List ℕ). eq_by_cmp (slice_cmp nat_cmp) path q) ks ≡ list_any (eq_by_cmp (slice_cmp nat_cmp) q) ks
any_turned q [] = refl
any_turned q (k ∷ ks) = ap (λ (b : Bool). b || list_any (λ (path : List ℕ). eq_by_cmp (slice_cmp nat_cmp) path q) ks) (turned k q) ∙ ap (λ (b : Bool). eq_by_cmp (slice_cmp nat_cmp) q k || b) (any_turned q ks)

module _ (o : Objects) (f : Folder) (is : IsFolderOf o f) where
  pub standing_is : (standing : BTreeSet (List ℕ)) → ((q : List ℕ) → contains (slice_cmp nat_cmp) standing q ≡ (stands_among f.names q || stands_among f.others q)) → AreStanding standing o
  standing_is standing all q =
      all q
      ∙ ap (λ (ps : List (List ℕ)). stands_among ps q || stands_among f.others q) is.names
      ∙ ap (λ (ps : List (List ℕ)). stands_among (filter is_hidden (finmap.keys o)) q || stands_among ps q) is.others
      ∙ any_parted (λ (path : List ℕ). eq_by_cmp (slice_cmp nat_cmp) path q) is_hidden (finmap.keys o)
      ∙ any_turned q (finmap.keys o)
      ∙ sym (contains_key-keys o q)

  either_list : (q : List ℕ) → IsSome (at_path o q) → Contains f.names q ⊎ Contains f.others q
  either_list q stands = from (is_hidden q) refl
    where
      from : (b : Bool) → is_hidden q ≡ b → Contains f.names q ⊎ Contains f.others q
      from true hidden = inl (subst (λ (ps : List (List ℕ)). Contains ps q) (sym is.names) (among_filter is_hidden (finmap.keys o) q (in_keys o q stands) hidden))
      from false outer = inr (subst (λ (ps : List (List ℕ)). Contains ps q) (sym is.others) (among_filter (λ path. not (is_hidden path)) (finmap.keys o) q (in_keys o q stands) (ap not outer)))

  name_stands : (q : List ℕ) → Contains f.names q → IsSome (at_path o q)
  name_stands q among = stands_from_keys o q (of_filter is_hidden (finmap.keys o) q (subst (λ (ps : List (List ℕ)). Contains ps q) is.names among))

  other_stands : (q : List ℕ) → Contains f.others q → IsSome (at_path o q)
  other_stands q among = stands_from_keys o q (of_filter (λ path. not (is_hidden path)) (finmap.keys o) q (subst (λ (ps : List (List ℕ)). Contains ps q) is.others among))

  pub last_is : (now last : ℕ) → IsLastOf now f.names f.others last → IsLast now o last
  last_is now last (during, among_names, among_others) = record {
    upto = λ q at stands names. ⊎_elim
        (λ (c : Contains f.names q). let low = All-contains (UptoAt during) f.names q among_names.upto c at names in let step = among_others.least in omega (arith, low, step))
        (λ (c : Contains f.others q). All-contains (UptoAt last) f.others q among_others.upto c at names)
        (either_list q stands);
    least = let one = among_names.least in let two = among_others.least in omega (arith, one, two);
    either = from among_others.either among_names.either;
  }
    where
      from : (last ≡ during) ⊎ ((path : List ℕ) × Contains f.others path × NamesInstant path last) → (during ≡ now - 1) ⊎ ((path : List ℕ) × Contains f.names path × NamesInstant path during) → (last ≡ now - 1) ⊎ NamedIn o last
      from (inr (path, among, names)) other = inr (path, other_stands path among, names)
      from (inl same) (inl first) = inl (same ∙ first)
      from (inl same) (inr (path, among, names)) = inr (path, name_stands path among, subst (NamesInstant path) (sym same) names)

-- ---- deletes, one after the other

pub delete_gone : (standing after : BTreeSet (List ℕ)) (o : Objects) (path : List ℕ) → AreStanding standing o → contains (slice_cmp nat_cmp) standing path ≡ true
    → ((q : List ℕ) → contains (slice_cmp nat_cmp) after q ≡ cond (eq_by_cmp (slice_cmp nat_cmp) path q) false (contains (slice_cmp nat_cmp) standing q))
    → (deletes o (path ∷ []) ≡ Delete path ∷ []) × AreStanding after (after_all o (deletes o (path ∷ [])))
delete_gone standing after o path are stands updates = (one, λ q. updates q ∙ gone q ∙ ap (λ (cs : List Change). is_some (at_path (after_all o cs) q)) (sym one))
  where
    one : deletes o (path ∷ []) ≡ Delete path ∷ []
    one = ap (λ (b : Bool). cond b (Delete path ∷ []) []) (sym (are path) ∙ stands)

    gone : (q : List ℕ) → cond (eq_by_cmp (slice_cmp nat_cmp) path q) false (contains (slice_cmp nat_cmp) standing q) ≡ is_some (at_path (finmap.remove o path) q)
    gone q = ⊎_elim
        (λ (same : q ≡ path). ap (λ (b : Bool). cond b false (contains (slice_cmp nat_cmp) standing q)) (ap (eq_by_cmp (slice_cmp nat_cmp) path) same ∙ path_same path)
        ∙ sym (ap (λ (x : Option (List ℕ)). is_some x) (ap (at_path (finmap.remove o path)) same ∙ at_removed o path)))
        (λ (other : q ≢ path). ap (λ (b : Bool). cond b false (contains (slice_cmp nat_cmp) standing q)) (path_other path q (λ same. other (sym same)))
        ∙ are q
        ∙ sym (ap (λ (x : Option (List ℕ)). is_some x) (at_left o path q other)))
        (cases_path q path)

-- what the deletes so far are and leave
abbrev pub AreDeleted : Objects → List (List ℕ) → List Change → BTreeSet (List ℕ) → Type 0
AreDeleted o paths changes standing = (changes ≡ deletes o paths) × AreStanding standing (after_all o (deletes o paths))

pub deleted_next : (o : Objects) (paths : List (List ℕ)) (i : ℕ) (path : List ℕ) (changes more : List Change) (standing after : BTreeSet (List ℕ)) → i < length paths → path ≡ get_or paths i path → AreDeleted o (take i paths) changes standing
    → (more ≡ changes ++ deletes (after_all o (deletes o (take i paths))) (path ∷ [])) × AreStanding after (after_all (after_all o (deletes o (take i paths))) (deletes (after_all o (deletes o (take i paths))) (path ∷ [])))
    → AreDeleted o (take (i + 1) paths) more after
deleted_next o paths i path changes more standing after within is (so_far, stands) (added, left) =
    let all : take (i + 1) paths ≡ take i paths ++ path ∷ [] = take_more paths i path within ∙ ap (λ (y : List ℕ). take i paths ++ y ∷ []) (sym is) in
    let during = after_all o (deletes o (take i paths)) in
    let joined : deletes o (take (i + 1) paths) ≡ deletes o (take i paths) ++ deletes during (path ∷ []) = ap (deletes o) all ∙ deletes-append o (take i paths) (path ∷ []) in (
      added ∙ ap (λ (cs : List Change). cs ++ deletes during (path ∷ [])) so_far ∙ sym joined,
      subst (AreStanding after) (sym (ap (after_all o) joined ∙ after_all-append o (deletes o (take i paths)) (deletes during (path ∷ [])))) left,
    )

-- ---- the plan

pub recovery_none : (o : Objects) (pendings : List Pending) → length pendings ≡ 0 → [] ≡ recovery_changes o pendings
recovery_none o [] none = refl
recovery_none o (left ∷ pendings) none = absurd (omega (arith, none))

pub left_no_config : (o : Objects) (f : Folder) → IsOpenable o → IsFolderOf o f → All IsNoConfig (flat_map left_by f.pending)
left_no_config o f opens is = no_config o (flat_map left_by f.pending) (all_may_go o opens f.pending is.pending.each)

pub config_stands : (o : Objects) (f : Folder) → IsFolderOf o f → at_path o (object_path Config) ≡ Some (config_text f.config)
config_stands o f is = sym (object_at-is o Config refl) ∙ is.config
