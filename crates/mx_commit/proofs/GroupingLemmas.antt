-- The entries by partition and file id are what a commit's object says.
use Rattle.std.proofs.Common.{◌≡◌, ◌≢◌, ◌⊎◌, inl, inr, ℕ, Bool, true, false, cond, List, [], ◌∷◌, ◌++◌, map, Less, refl, sym, ◌∙◌, ap, subst, subst₂}
use Rattle.std.specs.Prelude.{All, Contains, filter}
use Rattle.std.specs.BTreeSet.{BTreeSet, contains}
use Rattle.std.specs.Cmp.Lexicographic.{slice_cmp}
use Rattle.std.specs.List.{list_any, flat_map}
use Rattle.std.specs.List.Sorted.{IsStrictlySortedBy}
use Rattle.std.specs.Ordering.{nat_cmp, is_eq, is_lt}
use Rattle.std.specs.declared.cmp.Ordering.{Ordering}
use Rattle.std.specs.Str.{bytes_eq}
use Rattle.std.proofs.lemmas.Bool.{and_parts, and_from}
use Rattle.std.proofs.lemmas.List.Elements.{All-nil, All-cons, All-head, All-tail, All-append, All-map, All-weaker, All-contains, All-contains_itself, All-from_recursion, recursion_from_All, Contains-append_left, Contains-append_right}
use Rattle.std.proofs.lemmas.Slice.Eq.{bytes_eq-Decides}
use Rattle.mx_store.proofs.Paths.{same_path, path_same}
use Rattle.mx_folder.proofs.ElementLemmas.{among_here, among_later, among_cases, among_none}
use Rattle.mx_meta.specs.CommitText.{stat_below}
use Rattle.mx_meta.specs.Rising.{is_rising, rises_from}
use Rattle.mx_meta.specs.declared.commit_meta.CommitMeta.{CommitMeta}
use Rattle.mx_meta.specs.declared.commit_meta.PartitionStats.{PartitionStats}
use Rattle.mx_meta.specs.declared.commit_meta.WriteStat.{WriteStat}
use Rattle.mx_commit.specs.declared.written.Written.{Written}
use Rattle.mx_commit.specs.Grouping.{is_under, has_id, is_of_group, group_stats, partition_stats}
use Rattle.mx_commit.specs.Written.{IsOtherGroup, AreOfOtherGroups, HasEntry, IsMetaOf}
use Rattle.mx_commit.proofs.EntryLemmas.{found, find_it}

-- ---- elements of sets of texts

among_keys : (s : BTreeSet (List ℕ)) (q : List ℕ) → contains (slice_cmp nat_cmp) s q ≡ true → Contains s.keys q
among_keys s q has = let key = found (λ (k : List ℕ). is_eq (slice_cmp nat_cmp q k)) s.keys has in subst (Contains s.keys) (sym (same_path q key.0 key.2)) key.1

keys_have : (s : BTreeSet (List ℕ)) (q : List ℕ) → Contains s.keys q → contains (slice_cmp nat_cmp) s q ≡ true
keys_have s q among = find_it (λ (k : List ℕ). is_eq (slice_cmp nat_cmp q k)) s.keys q among (path_same q)

-- ---- the entries of one group

group_of : (partition id : List ℕ) (w : Written) → is_of_group partition id w ≡ true → (w.partition ≡ partition) × (w.stat.file_id ≡ id)
group_of partition id w is = (
  (bytes_eq-Decides w.partition partition).0 (and_parts (bytes_eq w.partition partition) (bytes_eq w.stat.file_id id) is).0,
  (bytes_eq-Decides w.stat.file_id id).0 (and_parts (bytes_eq w.partition partition) (bytes_eq w.stat.file_id id) is).1,
)

of_own_group : (w : Written) → is_of_group w.partition w.stat.file_id w ≡ true
of_own_group w = and_from (bytes_eq w.partition w.partition) (bytes_eq w.stat.file_id w.stat.file_id) ((bytes_eq-Decides w.partition w.partition).1 refl) ((bytes_eq-Decides w.stat.file_id w.stat.file_id).1 refl)

abbrev stat_of : Written → WriteStat
stat_of w = w.stat

group_each : (P : WriteStat → Type 0) (partition id : List ℕ) (ws : List Written) → ((w : Written) → Contains ws w → w.partition ≡ partition → w.stat.file_id ≡ id → P w.stat) → All P (group_stats ws partition id)
group_each P partition id [] each = All-nil P
group_each P partition id (w ∷ ws) each = at (is_of_group partition id w) refl (group_each P partition id ws (λ v among. each v (among_later v w ws among)))
  where
    at : (b : Bool) → is_of_group partition id w ≡ b → All P (group_stats ws partition id) → All P (map (λ (w : Written). w.stat) (cond b (w ∷ filter (is_of_group partition id) ws) (filter (is_of_group partition id) ws)))
    at true is later = All-cons P w.stat (group_stats ws partition id) (each w (among_here w ws) (group_of partition id w is).0 (group_of partition id w is).1) later
    at false is later = later

group_has : (partition id : List ℕ) (ws : List Written) (w : Written) → Contains ws w → is_of_group partition id w ≡ true → Contains (group_stats ws partition id) w.stat
group_has partition id [] w among is = absurd (among_none w among)
group_has partition id (v ∷ ws) w among is = at (is_of_group partition id v) refl (among_cases w v ws among) (λ later. group_has partition id ws w later is)
  where
    at : (b : Bool) → is_of_group partition id v ≡ b → (v ≡ w) ⊎ Contains ws w → (Contains ws w → Contains (group_stats ws partition id) w.stat) → Contains (map (λ (w : Written). w.stat) (cond b (v ∷ filter (is_of_group partition id) ws) (filter (is_of_group partition id) ws))) w.stat
    at true now (inl same) further = subst (λ (u : Written). Contains (v.stat ∷ group_stats ws partition id) u.stat) same (among_here v.stat (group_stats ws partition id))
    at true now (inr later) further = among_later w.stat v.stat (group_stats ws partition id) (further later)
    at false now (inl same) further = absurd (cc (sym now ∙ ap (is_of_group partition id) same ∙ is))
    at false now (inr later) further = further later

group_none : (partition id : List ℕ) (w : Written) (ws : List Written) → is_of_group partition id w ≡ true → All (IsOtherGroup w) ws → group_stats ws partition id ≡ []
group_none partition id w [] is other = refl
group_none partition id w (v ∷ ws) is other = at (is_of_group partition id v) refl (group_none partition id w ws is (All-tail (IsOtherGroup w) v ws other))
  where
    at : (b : Bool) → is_of_group partition id v ≡ b → group_stats ws partition id ≡ [] → map (λ (w : Written). w.stat) (cond b (v ∷ filter (is_of_group partition id) ws) (filter (is_of_group partition id) ws)) ≡ []
    at true now later =
        let first = group_of partition id w is in
        let second = group_of partition id v now in
        absurd (All-head (IsOtherGroup w) v ws other (first.0 ∙ sym second.0, first.1 ∙ sym second.1))
    at false now later = later

-- ---- the order of file ids

abbrev by_id : WriteStat → WriteStat → Ordering
by_id x y = slice_cmp nat_cmp x.file_id y.file_id

rises : (x : WriteStat) (xs : List WriteStat) → IsStrictlySortedBy by_id (x ∷ xs) → rises_from stat_below x xs ≡ true
unfolding IsStrictlySortedBy
rises x [] sorted = refl
rises x (y ∷ xs) sorted = and_from (stat_below x y) (rises_from stat_below y xs) (ap is_lt sorted.0.0) (rises y xs sorted.1)

rising : (xs : List WriteStat) → IsStrictlySortedBy by_id xs → is_rising stat_below xs ≡ true
rising [] sorted = refl
rising (x ∷ xs) sorted = rises x xs sorted

sorted_append : (xs ys : List WriteStat) → IsStrictlySortedBy by_id xs → IsStrictlySortedBy by_id ys → All (λ (x : WriteStat). All (λ (y : WriteStat). by_id x y ≡ Less) ys) xs → IsStrictlySortedBy by_id (xs ++ ys)
unfolding IsStrictlySortedBy
sorted_append [] ys first second below = second
sorted_append (x ∷ xs) ys first second below = (
  recursion_from_All (λ (y : WriteStat). by_id x y ≡ Less) (xs ++ ys)
      (All-append (λ (y : WriteStat). by_id x y ≡ Less) xs ys (All-from_recursion (λ (y : WriteStat). by_id x y ≡ Less) xs first.0)
      (All-head (λ (x : WriteStat). All (λ (y : WriteStat). by_id x y ≡ Less) ys) x xs below)),
  sorted_append xs ys first.1 second (All-tail (λ (x : WriteStat). All (λ (y : WriteStat). by_id x y ≡ Less) ys) x xs below),
)

group_sorted : (partition id : List ℕ) (ws : List Written) → AreOfOtherGroups ws → IsStrictlySortedBy by_id (group_stats ws partition id)
unfolding IsStrictlySortedBy
group_sorted partition id [] apart = tt
group_sorted partition id (w ∷ ws) apart = at (is_of_group partition id w) refl (group_sorted partition id ws apart.1)
  where
    at : (b : Bool) → is_of_group partition id w ≡ b → IsStrictlySortedBy by_id (group_stats ws partition id) → IsStrictlySortedBy by_id (map (λ (w : Written). w.stat) (cond b (w ∷ filter (is_of_group partition id) ws) (filter (is_of_group partition id) ws)))
    at true now later = subst (λ (xs : List WriteStat). IsStrictlySortedBy by_id (w.stat ∷ xs)) (sym (group_none partition id w ws now apart.0)) (tt, tt)
    at false now later = later

-- ---- the entries of a partition

module _ (written : List Written) (partition : List ℕ) where
  stats_each : (P : WriteStat → Type 0) (ids : List (List ℕ)) → ((id : List ℕ) → Contains ids id → All P (group_stats written partition id)) → All P (flat_map (group_stats written partition) ids)
  stats_each P [] each = All-nil P
  stats_each P (id ∷ ids) each = All-append P (group_stats written partition id) (flat_map (group_stats written partition) ids) (each id (among_here id ids)) (stats_each P ids (λ other among. each other (among_later other id ids among)))

  stats_have : (ids : List (List ℕ)) (id : List ℕ) (stat : WriteStat) → Contains ids id → Contains (group_stats written partition id) stat → Contains (flat_map (group_stats written partition) ids) stat
  stats_have [] id stat among has = absurd (among_none id among)
  stats_have (first ∷ ids) id stat among has = at (among_cases id first ids among) (λ later. stats_have ids id stat later has)
    where
      at : (first ≡ id) ⊎ Contains ids id → (Contains ids id → Contains (flat_map (group_stats written partition) ids) stat) → Contains (group_stats written partition first ++ flat_map (group_stats written partition) ids) stat
      at (inl same) further = Contains-append_left (group_stats written partition first) (flat_map (group_stats written partition) ids) stat (subst (λ (i : List ℕ). Contains (group_stats written partition i) stat) (sym same) has)
      at (inr later) further = Contains-append_right (group_stats written partition first) (flat_map (group_stats written partition) ids) stat (further later)

  stats_sorted : (ids : List (List ℕ)) → AreOfOtherGroups written → IsStrictlySortedBy (slice_cmp nat_cmp) ids → IsStrictlySortedBy by_id (flat_map (group_stats written partition) ids)
  unfolding IsStrictlySortedBy
  stats_sorted [] apart sorted = tt
  stats_sorted (id ∷ ids) apart sorted = sorted_append (group_stats written partition id) (flat_map (group_stats written partition) ids) (group_sorted partition id written apart) (stats_sorted ids apart sorted.1)
      (group_each (λ (x : WriteStat). All (λ (y : WriteStat). by_id x y ≡ Less) (flat_map (group_stats written partition) ids)) partition id written
      (λ w among under is. stats_each (λ (y : WriteStat). by_id w.stat y ≡ Less) ids
      (λ other later. group_each (λ (y : WriteStat). by_id w.stat y ≡ Less) partition other written
      (λ v standing under_too is_too. subst₂ (λ (i j : List ℕ). slice_cmp nat_cmp i j ≡ Less) (sym is) (sym is_too) (All-contains (λ (q : List ℕ). slice_cmp nat_cmp id q ≡ Less) ids other (All-from_recursion (λ (q : List ℕ). slice_cmp nat_cmp id q ≡ Less) ids sorted.0) later)))))

-- ---- the object

map_names : (written : List Written) (ids names : List (List ℕ)) → map (λ (p : PartitionStats). p.partition) (map (partition_stats written ids) names) ≡ names
map_names written ids [] = refl
map_names written ids (name ∷ names) = ap (λ (ns : List (List ℕ)). name ∷ ns) (map_names written ids names)

in_map : {X Y : Type 0} (f : X → Y) (xs : List X) (x : X) → Contains xs x → Contains (map f xs) (f x)
in_map f [] x among = absurd (among_none x among)
in_map {X} {Y} f (y ∷ xs) x among = at (among_cases x y xs among) (in_map f xs x)
  where
    at : (y ≡ x) ⊎ Contains xs x → (Contains xs x → Contains (map f xs) (f x)) → Contains (f y ∷ map f xs) (f x)
    at (inl same) further = subst (λ (z : X). Contains (f y ∷ map f xs) (f z)) same (among_here (f y) (map f xs))
    at (inr later) further = among_later (f x) (f y) (map f xs) (further later)

abbrev entry : List ℕ → WriteStat → Written
entry partition stat = record { partition = partition; stat = stat }

module _ (written : List Written) (names ids : BTreeSet (List ℕ)) (apart : AreOfOtherGroups written) (named : (q : List ℕ) → contains (slice_cmp nat_cmp) names q ≡ list_any (is_under q) written) (numbered : (q : List ℕ) → contains (slice_cmp nat_cmp) ids q ≡ list_any (has_id q) written) where
  has_name : (w : Written) → Contains written w → Contains names.keys w.partition
  has_name w among = among_keys names w.partition (named w.partition ∙ find_it (is_under w.partition) written w among (path_same w.partition))

  has_number : (w : Written) → Contains written w → Contains ids.keys w.stat.file_id
  has_number w among = among_keys ids w.stat.file_id (numbered w.stat.file_id ∙ find_it (has_id w.stat.file_id) written w among (path_same w.stat.file_id))

  has_stat : (w : Written) → Contains written w → Contains (flat_map (group_stats written w.partition) ids.keys) w.stat
  has_stat w among = stats_have written w.partition ids.keys w.stat.file_id w.stat (has_number w among) (group_has w.partition w.stat.file_id written w among (of_own_group w))

  name_filled : (name : List ℕ) → Contains names.keys name → flat_map (group_stats written name) ids.keys ≢ []
  name_filled name among none =
      let one = found (is_under name) written (sym (named name) ∙ keys_have names name among) in
      let same : one.0.partition ≡ name = same_path one.0.partition name one.2 in
      among_none one.0.stat (subst (λ (xs : List WriteStat). Contains xs one.0.stat) none (subst (λ (q : List ℕ). Contains (flat_map (group_stats written q) ids.keys) one.0.stat) same (has_stat one.0 one.1)))

  abbrev meta : CommitMeta
  meta = record { partitions = map (partition_stats written ids.keys) names.keys }

  only_these : All (λ (p : PartitionStats). All (λ (s : WriteStat). Contains written (entry p.partition s)) p.stats) meta.partitions
  only_these = All-map (λ (p : PartitionStats). All (λ (s : WriteStat). Contains written (entry p.partition s)) p.stats) (partition_stats written ids.keys) names.keys
      (All-weaker (Contains names.keys) (λ (name : List ℕ). All (λ (s : WriteStat). Contains written (entry name s)) (flat_map (group_stats written name) ids.keys))
      (λ name _. stats_each written name (λ (s : WriteStat). Contains written (entry name s)) ids.keys
      (λ id _. group_each (λ (s : WriteStat). Contains written (entry name s)) name id written (λ w among under is. subst (λ (q : List ℕ). Contains written (entry q w.stat)) under among)))
      names.keys (All-contains_itself names.keys))

  pub grouped : IsStrictlySortedBy (slice_cmp nat_cmp) names.keys → IsStrictlySortedBy (slice_cmp nat_cmp) ids.keys → IsMetaOf written meta
  grouped names_rise ids_rise = record {
    rising = subst (IsStrictlySortedBy (slice_cmp nat_cmp)) (sym (map_names written ids.keys names.keys)) names_rise;
    ordered = All-map (λ (p : PartitionStats). is_rising stat_below p.stats ≡ true) (partition_stats written ids.keys) names.keys
        (All-weaker (Contains names.keys) (λ (name : List ℕ). is_rising stat_below (flat_map (group_stats written name) ids.keys) ≡ true)
        (λ name _. rising (flat_map (group_stats written name) ids.keys) (stats_sorted written name ids.keys apart ids_rise)) names.keys (All-contains_itself names.keys));
    filled = All-map (λ (p : PartitionStats). p.stats ≢ []) (partition_stats written ids.keys) names.keys
        (All-weaker (Contains names.keys) (λ (name : List ℕ). flat_map (group_stats written name) ids.keys ≢ []) name_filled names.keys (All-contains_itself names.keys));
    all = All-weaker (Contains written) (HasEntry meta)
        (λ w among. (partition_stats written ids.keys w.partition, in_map (partition_stats written ids.keys) names.keys w.partition (has_name w among), refl, has_stat w among))
        written (All-contains_itself written);
    only = λ w has.
        subst (λ (q : List ℕ). Contains written (entry q w.stat)) has.2
        (All-contains (λ (s : WriteStat). Contains written (entry has.0.partition s)) has.0.stats w.stat
        (All-contains (λ (p : PartitionStats). All (λ (s : WriteStat). Contains written (entry p.partition s)) p.stats) meta.partitions has.0 only_these has.1) has.3);
  }
