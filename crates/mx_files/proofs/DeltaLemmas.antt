-- The index of a table over a delta.
use Rattle.std.proofs.Common.{◌≡◌, ℕ, Bool, true, false, cond, List, [], ◌++◌, map, Option, None, ap}
use Rattle.std.specs.Prelude.{option_map, option_to_list, bytes_eq}
use Rattle.std.specs.FinMap as finmap
use Rattle.mx_base.specs.declared.entry.FileAt.{FileAt}
use Rattle.mx_payload.specs.declared.payload.Payload.TheVariants.{Files}
use Rattle.mx_merge.specs.Shown.{SizeMap, words_with, shown}
use Rattle.mx_files.specs.Files.{FilesMap, all_partitions, named_partitions, partition_list, files_map, expected_on}
use Rattle.mx_files.specs.Delta.{said_in, word_of, named_files, delta_on, AreOf, files_after}
use Rattle.mx_lists.proofs.TreeLemmas.{R, entries-empty}
use Rattle.mx_files.proofs.MapLemmas.{keys-empty}
use Rattle.mx_files.proofs.WordLemmas.{shows_files}
use Rattle.mx_files.proofs.PartitionLemmas.{shows_partitions}

pub shows_after : (files : FilesMap) (news gone : List FileAt) → AreOf files gone → (key : List ℕ) →
    shown (option_to_list (expected_on key files) ++ option_to_list (delta_on key news gone)) ≡ expected_on key (files_after files news gone)
unfolding expected_on delta_on
shows_after files news gone of key = chosen (bytes_eq key all_partitions)
  where
    chosen : (b : Bool) → shown (option_to_list (cond b (partition_list files) (option_map (λ (sizes : SizeMap). Files (words_with sizes)) (finmap.get files key)))
        ++ option_to_list (cond b (partition_list (files_map news)) (named_files (map word_of (finmap.entries (said_in key news gone))))))
        ≡ cond b (partition_list (files_after files news gone)) (option_map (λ (sizes : SizeMap). Files (words_with sizes)) (finmap.get (files_after files news gone) key))
    chosen true = shows_partitions files news gone of
    chosen false = shows_files files news gone key

pub expected-nothing : (key : List ℕ) → expected_on key finmap.empty ≡ None
unfolding expected_on
expected-nothing key = chosen (bytes_eq key all_partitions)
  where
    chosen : (b : Bool) → cond b (partition_list finmap.empty) (option_map (λ (sizes : SizeMap). Files (words_with sizes)) (finmap.get (finmap.empty {X = SizeMap} {R = R}) key)) ≡ None
    chosen true = ap named_partitions (keys-empty SizeMap)
    chosen false = ap (option_map (λ (sizes : SizeMap). Files (words_with sizes))) (finmap.get-empty R key)

pub delta-nothing : (key : List ℕ) → delta_on key [] [] ≡ None
unfolding delta_on
delta-nothing key = chosen (bytes_eq key all_partitions)
  where
    chosen : (b : Bool) → cond b (partition_list (files_map [])) (named_files (map word_of (finmap.entries (said_in key [] [])))) ≡ None
    chosen true = ap named_partitions (keys-empty SizeMap)
    chosen false = ap (λ (es : List (List ℕ × Option ℕ)). named_files (map word_of es)) (entries-empty (Option ℕ))
