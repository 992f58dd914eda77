-- What a commit writes reads back.
use Rattle.std.proofs.Common.{◌≡◌, ◌∙◌, sym, ap, ℕ, ◌<◌, ◌^◌, true, false, List, [], ◌∷◌, ◌++◌, ◌+◌, ap₂, append_assoc, Option, Some, None, refl}
use Rattle.std.specs.Prelude.{All, Contains, option_map, option_and_then}
use Rattle.std.specs.Option.{option_map_or, SomeIff}
use Rattle.std.proofs.lemmas.List.{map-append}
use Rattle.std.proofs.lemmas.List.Elements.{All-nil, All-cons, All-head, All-tail, All-weaker, All-contains, All-contains_itself}
use Rattle.mx_commit.specs.declared.new_file.NewFile.{NewFile}
use Rattle.mx_base.specs.Objects.{IsObjectName, object_path}
use Rattle.mx_base.proofs.ObjectLemmas.{object_path-injective}
use Rattle.mx_base.specs.declared.object_name.ObjectName.{ObjectName}
use Rattle.mx_folder.specs.Named.{log_name}
use Rattle.mx_folder.proofs.NamedLemmas.{is_commit_name}
use Rattle.mx_meta.specs.CommitText.{HasSmallCounts, IsWellFormed}
use Rattle.mx_meta.specs.Places.{place_in, place_of, place_below, stands_in_order}
use Rattle.mx_meta.specs.Rising.{is_rising}
use Rattle.mx_meta.specs.declared.commit_meta.CommitMeta.{CommitMeta}
use Rattle.mx_meta.specs.declared.commit_meta.PartitionStats.{PartitionStats}
use Rattle.mx_meta.specs.declared.places.Place.{Place}
use Rattle.mx_meta.specs.declared.places.ShardFile.TheVariants.{Log as ShardLog}
use Rattle.mx_meta.proofs.PlaceLemmas.{place_found}
use Rattle.mx_commit.specs.declared.written.Written.{Written}
use Rattle.mx_store.specs.declared.change.Change.{Change}
use Rattle.mx_store.specs.declared.change.Change.TheVariants.{Create}
use Rattle.mx_commit.specs.Changes.{logs_written, data_changes}
use Rattle.mx_commit.specs.Written.{IsOtherGroup, AreOfOtherGroups, IsSameGroup, AreApartFiles, new_group, AreWritten, IsMetaOf, data_file}

-- ---- the data files

pub data_more : (old before after : List Change) (files : List NewFile) (file : NewFile) (t : ℕ) (change : Change) → before ≡ old ++ data_changes files t → change ≡ Create (data_file file t) file.bytes → after ≡ before ++ change ∷ []
    → after ≡ old ++ data_changes (files ++ file ∷ []) t
data_more old before after files file t change so_far made pushed =
    pushed ∙ ap₂ (λ (cs : List Change) (c : Change). cs ++ c ∷ []) so_far made
    ∙ append_assoc old (data_changes files t) (Create (data_file file t) file.bytes ∷ [])
    ∙ ap (λ (cs : List Change). old ++ cs) (sym (map-append (λ (f : NewFile). Create (data_file f t) f.bytes) files (file ∷ [])))

-- ---- the log

pub named : (t : ℕ) → 0 < t → t < 10 ^ 17 → IsObjectName (log_name t)
named t meant small = is_commit_name t meant small

-- one log stands by partition and shard
one_log : (t : ℕ) → 0 < t → t < 10 ^ 17 → stands_in_order ShardLog (object_path (log_name t) ∷ []) ≡ true
unfolding stands_in_order
one_log t meant small = ap (λ (x : Option Place). option_map_or (is_rising place_below) (option_and_then (λ place. option_map (λ places. place ∷ places) (Some [])) x) false) (sym is)
  where
    is : place_in ShardLog (log_name t) ≡ place_of ShardLog (object_path (log_name t))
    is = place_found ShardLog (object_path (log_name t)) (Some (log_name t)) (named t meant small, refl)
        (λ other other_named same. ap (λ (n : ObjectName). Some n) (object_path-injective (log_name t) other (named t meant small) other_named same))

logs_stand : (files : List NewFile) (t : ℕ) → 0 < t → t < 10 ^ 17 → stands_in_order ShardLog (logs_written files t) ≡ true
unfolding stands_in_order
logs_stand [] t meant small = refl
logs_stand (file ∷ files) t meant small = one_log t meant small

pub logs_meta : (files : List NewFile) (t : ℕ) (found : Option (List (List ℕ))) (logs : List (List ℕ)) → 0 < t → t < 10 ^ 17 → logs ≡ logs_written files t → SomeIff found (stands_in_order ShardLog logs ≡ true) logs → found ≡ None → ⊥
logs_meta files t None logs meant small is tells none = tells (ap (stands_in_order ShardLog) is ∙ logs_stand files t meant small)
logs_meta files t (Some x) logs meant small is tells none = absurd (cc none)

-- ---- the object of the commit

pub small_counts : (written : List Written) (meta : CommitMeta) → IsMetaOf written meta → All (λ (w : Written). HasSmallCounts w.stat) written → IsWellFormed meta
small_counts written meta is small = record {
  rising = is.rising;
  ordered = is.ordered;
  counts = All-weaker (Contains meta.partitions) (λ (p : PartitionStats). All HasSmallCounts p.stats)
      (λ p standing. All-weaker (Contains p.stats) HasSmallCounts
      (λ s among. All-contains (λ (w : Written). HasSmallCounts w.stat) written (record { partition = p.partition; stat = s }) small (is.only (record { partition = p.partition; stat = s }) (p, standing, refl, among)))
      p.stats (All-contains_itself p.stats))
      meta.partitions (All-contains_itself meta.partitions);
}

-- entries of files that are apart are of other groups
other_groups : (file : NewFile) (w : Written) → w.partition ≡ file.partition → w.stat.file_id ≡ file.file → (files : List NewFile) (at : ℕ) (ws : List Written) → All (λ (other : NewFile). ¬ (IsSameGroup (new_group file) (new_group other))) files → AreWritten files at ws → All (IsOtherGroup w) ws
other_groups file w under is [] at [] apart entries = All-nil (IsOtherGroup w)
other_groups file w under is [] at (v ∷ ws) apart entries = absurd entries
other_groups file w under is (other ∷ files) at [] apart entries = absurd entries
other_groups file w under is (other ∷ files) at (v ∷ ws) apart entries =
    let entry = entries.0.1 in
    All-cons (IsOtherGroup w) v ws
    (λ same. All-head (λ (other : NewFile). ¬ (IsSameGroup (new_group file) (new_group other))) other files apart (sym under ∙ (same.0 ∙ ap (λ (v : Written). v.partition) entry), sym is ∙ (same.1 ∙ ap (λ (v : Written). v.stat.file_id) entry)))
    (other_groups file w under is files at ws (All-tail (λ (other : NewFile). ¬ (IsSameGroup (new_group file) (new_group other))) other files apart) entries.1)

pub entries_apart : (files : List NewFile) (at : ℕ) (ws : List Written) → AreApartFiles new_group files → AreWritten files at ws → AreOfOtherGroups ws
entries_apart [] at [] apart entries = tt
entries_apart [] at (w ∷ ws) apart entries = absurd entries
entries_apart (file ∷ files) at [] apart entries = absurd entries
entries_apart (file ∷ files) at (w ∷ ws) apart entries = (
  other_groups file w (ap (λ (v : Written). v.partition) entries.0.1) (ap (λ (v : Written). v.stat.file_id) entries.0.1) files at ws apart.0 entries.1,
  entries_apart files at ws apart.1 entries.1,
)
