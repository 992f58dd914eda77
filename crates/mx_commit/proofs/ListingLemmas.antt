-- What the log of a commit adds to a map of files, its object lists too.
use Rattle.std.proofs.Common.{◌≡◌, ◌≢◌, ◌⊎◌, inl, inr, ⊎_elim, arith, ℕ, suc, Bool, true, ◌&&◌, List, [], ◌∷◌, ◌++◌, refl, sym, ◌∙◌, ap, subst}
use Rattle.std.specs.Prelude.{All, Contains, fold, map, codes}
use Rattle.std.specs.List.{flat_map, AllByRecursion}
use Rattle.std.specs.List.Sorted.{IsStrictlySortedBy}
use Rattle.std.specs.Ordering.{nat_cmp, is_eq}
use Rattle.std.specs.declared.cmp.Ordering.TheVariants.{Less}
use Rattle.std.specs.Cmp.Lexicographic.{slice_cmp}
use Rattle.std.proofs.lemmas.List.{append_cancel_right}
use Rattle.std.proofs.lemmas.List.Elements.{All-head, All-tail, All-contains}
use Rattle.std.proofs.lemmas.Map.Text.{is_eq-slice_cmp}
use Rattle.std.proofs.lemmas.Slice.Eq.{bytes_eq-Decides}
use Rattle.mx_commit.specs.declared.new_file.NewFile.{NewFile}
use Rattle.mx_base.specs.Digits.{instant_text}
use Rattle.mx_base.specs.Paths.{data_file_name}
use Rattle.mx_meta.specs.CommitText.{stat_below}
use Rattle.mx_meta.specs.Rising.{rises_from, is_rising, bytes_below}
use Rattle.mx_base.specs.declared.entry.FileAt.{FileAt}
use Rattle.mx_meta.specs.declared.commit_meta.CommitMeta.{CommitMeta}
use Rattle.mx_meta.specs.declared.commit_meta.PartitionStats.{PartitionStats}
use Rattle.mx_meta.specs.declared.commit_meta.WriteStat.{WriteStat}
use Rattle.mx_meta.proofs.FieldLemmas.{sorted_from_rising}
use Rattle.mx_model.specs.Listing.{file_of, files_of}
use Rattle.mx_files.specs.Files.{FilesMap, with_file}
use Rattle.mx_folder.proofs.FoldLemmas.{Among, among, ApartFrom, AreApart}
use Rattle.mx_folder.proofs.FileLemmas.{IsOtherFile, files_same}
use Rattle.mx_commit.specs.declared.written.Written.{Written}
use Rattle.mx_commit.specs.Written.{AreWritten, IsSameGroup, AreApartFiles, new_group, HasEntry, IsMetaOf}
use Rattle.mx_commit.specs.Changes.{file_added, files_added}

-- ---- lists

-- an element that is among is contained, as far as a sentence on all shows it
pub contains : {X : Type 0} (x : X) (xs : List X) → Among x xs → Contains xs x
contains x [] never = absurd never
contains x (y ∷ ys) (inl same) = (0, omega arith, sym same)
contains x (y ∷ ys) (inr more) = let there = contains x ys more in (suc there.0, omega (arith, there.1), there.2)

module _ {X : Type 0} where
  among_left : (z : X) (xs ys : List X) → Among z xs → Among z (xs ++ ys)
  among_left z [] ys never = absurd never
  among_left z (x ∷ xs) ys (inl same) = inl same
  among_left z (x ∷ xs) ys (inr more) = inr (among_left z xs ys more)

  among_right : (z : X) (xs ys : List X) → Among z ys → Among z (xs ++ ys)
  among_right z [] ys is = is
  among_right z (x ∷ xs) ys is = inr (among_right z xs ys is)

  cases_append : (z : X) (xs ys : List X) → Among z (xs ++ ys) → Among z xs ⊎ Among z ys
  cases_append z [] ys is = inr is
  cases_append z (x ∷ xs) ys (inl same) = inl (inl same)
  cases_append z (x ∷ xs) ys (inr more) = ⊎_elim (λ left. inl (inr left)) (λ right. inr right) (cases_append z xs ys more)

  module _ (Apart : X → X → Type 0) where
    from_append : (x : X) (xs ys : List X) → ApartFrom Apart x xs → ApartFrom Apart x ys → ApartFrom Apart x (xs ++ ys)
    from_append x [] ys left right = right
    from_append x (z ∷ xs) ys left right = (left.0, from_append x xs ys left.1 right)

    apart_append : (xs ys : List X) → AreApart Apart xs → AreApart Apart ys → ((x : X) → Among x xs → ApartFrom Apart x ys) → AreApart Apart (xs ++ ys)
    apart_append [] ys left right across = right
    apart_append (x ∷ xs) ys left right across = (from_append x xs ys left.0 (across x (inl refl)), apart_append xs ys left.1 right (λ z is. across z (inr is)))

-- ---- names

-- names of one instant differ where the file ids do
same_id : (a b : List ℕ) (at : ℕ) → data_file_name a at ≡ data_file_name b at → a ≡ b
unfolding data_file_name
same_id a b at same = append_cancel_right a b (codes "_0-0-0_" ++ (instant_text at ++ codes ".parquet")) same

less_differs : (a b : List ℕ) → slice_cmp nat_cmp a b ≡ Less → a ≢ b
less_differs a b less same = absurd (cc (ap is_eq less, is_eq-slice_cmp a b, (bytes_eq-Decides a b).1 same))

-- ---- the files of the ask

added_from : (file : NewFile) (files : List NewFile) (at : ℕ) → All (λ (other : NewFile). ¬ (IsSameGroup (new_group file) (new_group other))) files → ApartFrom IsOtherFile (file_added at file) (files_added files at)
added_from file [] at all = tt
added_from file (other ∷ files) at all = (
  λ same. All-head (λ (o : NewFile). ¬ (IsSameGroup (new_group file) (new_group o))) other files all (same.0, same_id file.file other.file at same.1),
  added_from file files at (All-tail (λ (o : NewFile). ¬ (IsSameGroup (new_group file) (new_group o))) other files all),
)

added_apart : (files : List NewFile) (at : ℕ) → AreApartFiles new_group files → AreApart IsOtherFile (files_added files at)
added_apart [] at apart = tt
added_apart (file ∷ files) at apart = (added_from file files at apart.0, added_apart files at apart.1)

-- ---- the files that the object lists

abbrev listed_in : ℕ → PartitionStats → List FileAt
listed_in at p = map (file_of at p.partition) p.stats

rises_alike : (s : WriteStat) (stats : List WriteStat) → rises_from stat_below s stats ≡ rises_from bytes_below s.file_id (map (λ (x : WriteStat). x.file_id) stats)
rises_alike s [] = refl
rises_alike s (x ∷ stats) = ap (λ (b : Bool). stat_below s x && b) (rises_alike x stats)

rising_alike : (stats : List WriteStat) → is_rising stat_below stats ≡ is_rising bytes_below (map (λ (x : WriteStat). x.file_id) stats)
rising_alike [] = refl
rising_alike (s ∷ stats) = rises_alike s stats

stat_from : (at : ℕ) (p id : List ℕ) (size : ℕ) (stats : List WriteStat) → AllByRecursion (λ (y : List ℕ). slice_cmp nat_cmp id y ≡ Less) (map (λ (x : WriteStat). x.file_id) stats) → ApartFrom IsOtherFile (record { partition = p; file = id; at = at; size = size }) (map (file_of at p) stats)
stat_from at p id size [] all = tt
stat_from at p id size (s ∷ stats) all = (λ same. less_differs id s.file_id all.0 (same_id id s.file_id at same.1), stat_from at p id size stats all.1)

stats_apart : (at : ℕ) (p : List ℕ) (stats : List WriteStat) → IsStrictlySortedBy (slice_cmp nat_cmp) (map (λ (x : WriteStat). x.file_id) stats) → AreApart IsOtherFile (map (file_of at p) stats)
unfolding IsStrictlySortedBy
stats_apart at p [] sorted = tt
stats_apart at p (s ∷ stats) sorted = (stat_from at p s.file_id s.file_size_in_bytes stats sorted.0, stats_apart at p stats sorted.1)

partition_in : (at : ℕ) (p : List ℕ) (stats : List WriteStat) (z : FileAt) → Among z (map (file_of at p) stats) → z.partition ≡ p
partition_in at p [] z never = absurd never
partition_in at p (s ∷ stats) z (inl same) = ap (λ (f : FileAt). f.partition) same
partition_in at p (s ∷ stats) z (inr more) = partition_in at p stats z more

in_other : (at : ℕ) (x : FileAt) (p : List ℕ) (stats : List WriteStat) → x.partition ≢ p → ApartFrom IsOtherFile x (map (file_of at p) stats)
in_other at x p [] other = tt
in_other at x p (s ∷ stats) other = (λ same. other same.0, in_other at x p stats other)

in_others : (at : ℕ) (x : FileAt) (ps : List PartitionStats) → AllByRecursion (λ (y : List ℕ). slice_cmp nat_cmp x.partition y ≡ Less) (map (λ (p : PartitionStats). p.partition) ps) → ApartFrom IsOtherFile x (flat_map (listed_in at) ps)
in_others at x [] all = tt
in_others at x (p ∷ ps) all = from_append IsOtherFile x (listed_in at p) (flat_map (listed_in at) ps) (in_other at x p.partition p.stats (less_differs x.partition p.partition all.0)) (in_others at x ps all.1)

listed_apart : (at : ℕ) (ps : List PartitionStats) → IsStrictlySortedBy (slice_cmp nat_cmp) (map (λ (p : PartitionStats). p.partition) ps) → All (λ (p : PartitionStats). is_rising stat_below p.stats ≡ true) ps → AreApart IsOtherFile (flat_map (listed_in at) ps)
unfolding IsStrictlySortedBy
listed_apart at [] rising ordered = tt
listed_apart at (p ∷ ps) rising ordered =
    let first : is_rising stat_below p.stats ≡ true = All-head (λ (q : PartitionStats). is_rising stat_below q.stats ≡ true) p ps ordered in
    apart_append IsOtherFile (listed_in at p) (flat_map (listed_in at) ps)
    (stats_apart at p.partition p.stats (sorted_from_rising (map (λ (x : WriteStat). x.file_id) p.stats) (sym (rising_alike p.stats) ∙ first)))
    (listed_apart at ps rising.1 (All-tail (λ (q : PartitionStats). is_rising stat_below q.stats ≡ true) p ps ordered))
    (λ x is. in_others at x ps (subst (λ (q : List ℕ). AllByRecursion (λ (y : List ℕ). slice_cmp nat_cmp q y ≡ Less) (map (λ (o : PartitionStats). o.partition) ps)) (sym (partition_in at p.partition p.stats x is)) rising.0))

-- ---- they are the same files

abbrev listed_file : ℕ → Written → FileAt
listed_file at w = file_of at w.partition w.stat

-- the file of an entry is listed
stat_listed : (at : ℕ) (p : List ℕ) (s : WriteStat) (stats : List WriteStat) → Among s stats → Among (file_of at p s) (map (file_of at p) stats)
stat_listed at p s [] never = absurd never
stat_listed at p s (x ∷ stats) (inl same) = inl (ap (file_of at p) same)
stat_listed at p s (x ∷ stats) (inr more) = inr (stat_listed at p s stats more)

part_listed : (at : ℕ) (p : PartitionStats) (z : FileAt) (ps : List PartitionStats) → Among p ps → Among z (listed_in at p) → Among z (flat_map (listed_in at) ps)
part_listed at p z [] never is = absurd never
part_listed at p z (q ∷ ps) (inl same) is = among_left z (listed_in at q) (flat_map (listed_in at) ps) (subst (λ (r : PartitionStats). Among z (listed_in at r)) same is)
part_listed at p z (q ∷ ps) (inr more) is = among_right z (listed_in at q) (flat_map (listed_in at) ps) (part_listed at p z ps more is)

entry_listed : (at : ℕ) (meta : CommitMeta) (w : Written) → HasEntry meta w → Among (listed_file at w) (flat_map (listed_in at) meta.partitions)
entry_listed at meta w has =
    let p : PartitionStats = has.0 in
    part_listed at p (listed_file at w) meta.partitions (among meta.partitions p has.1)
    (subst (λ (name : List ℕ). Among (file_of at name w.stat) (listed_in at p)) has.2 (stat_listed at p.partition w.stat p.stats (among p.stats w.stat has.3)))

-- a file that is listed has an entry
record Entry (at : ℕ) (ps : List PartitionStats) (z : FileAt) : Type 0 where
  pub p : PartitionStats
  pub s : WriteStat
  pub part : Among p ps
  pub stat : Among s p.stats
  pub is : z ≡ file_of at p.partition s

stat_of : (at : ℕ) (p : List ℕ) (z : FileAt) (stats : List WriteStat) → Among z (map (file_of at p) stats) → (s : WriteStat) × Among s stats × (z ≡ file_of at p s)
stat_of at p z [] never = absurd never
stat_of at p z (s ∷ stats) (inl same) = (s, inl refl, same)
stat_of at p z (s ∷ stats) (inr more) = let there = stat_of at p z stats more in (there.0, inr there.1, there.2)

entry_of : (at : ℕ) (z : FileAt) (ps : List PartitionStats) → Among z (flat_map (listed_in at) ps) → Entry at ps z
entry_of at z [] never = absurd never
entry_of at z (p ∷ ps) is = ⊎_elim
    (λ (here : Among z (listed_in at p)). let found = stat_of at p.partition z p.stats here in record { p = p; s = found.0; part = inl refl; stat = found.1; is = found.2 })
    (λ (there : Among z (flat_map (listed_in at) ps)). let found = entry_of at z ps there in record { p = found.p; s = found.s; part = inr found.part; stat = found.stat; is = found.is })
    (cases_append z (listed_in at p) (flat_map (listed_in at) ps) is)

-- each file of the ask has its entry, and each entry is of a file
entry_at : (files : List NewFile) (at : ℕ) (written : List Written) (z : FileAt) → AreWritten files at written → Among z (files_added files at) → (w : Written) × Among w written × (z ≡ listed_file at w)
entry_at [] at written z are never = absurd never
entry_at (file ∷ files) at [] z are is = absurd are
entry_at (file ∷ files) at (w ∷ ws) z are (inl same) = (w, inl refl, same ∙ ap (listed_file at) (sym are.0.1))
entry_at (file ∷ files) at (w ∷ ws) z are (inr more) = let there = entry_at files at ws z are.1 more in (there.0, inr there.1, there.2)

file_at : (files : List NewFile) (at : ℕ) (written : List Written) (w : Written) → AreWritten files at written → Among w written → Among (listed_file at w) (files_added files at)
file_at files at [] w are never = absurd never
file_at [] at (v ∷ ws) w are is = absurd are
file_at (file ∷ files) at (v ∷ ws) w are (inl same) = inl (ap (listed_file at) (same ∙ are.0.1))
file_at (file ∷ files) at (v ∷ ws) w are (inr more) = inr (file_at files at ws w are.1 more)

module _ (files : List NewFile) (at : ℕ) (written : List Written) (meta : CommitMeta) (apart : AreApartFiles new_group files) (are : AreWritten files at written) (is : IsMetaOf written meta) where
  into : (z : FileAt) → Among z (files_added files at) → Among z (flat_map (listed_in at) meta.partitions)
  into z among_files =
      let found = entry_at files at written z are among_files in
      subst (λ (f : FileAt). Among f (flat_map (listed_in at) meta.partitions)) (sym found.2)
      (entry_listed at meta found.0 (All-contains (HasEntry meta) written found.0 is.all (contains found.0 written found.1)))

  pub back : (z : FileAt) → Among z (flat_map (listed_in at) meta.partitions) → Among z (files_added files at)
  back z listed =
      let found = entry_of at z meta.partitions listed in
      let w : Written = record { partition = found.p.partition; stat = found.s } in
      let has : HasEntry meta w = (found.p, contains found.p meta.partitions found.part, refl, contains found.s found.p.stats found.stat) in
      subst (λ (f : FileAt). Among f (files_added files at)) (sym found.is) (file_at files at written w are (among written w (is.only w has)))

  pub logged_listed : (m : FilesMap) → fold with_file m (files_added files at) ≡ fold with_file m (files_of (record { at = at; meta = meta }))
  logged_listed m = files_same (files_added files at) (flat_map (listed_in at) meta.partitions) (added_apart files at apart) (listed_apart at meta.partitions is.rising is.ordered) into back m
