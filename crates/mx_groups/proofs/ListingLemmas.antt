-- The groups that a commit's object lists.
use Rattle.std.proofs.Common.{◌≡◌, ℕ, ◌+◌, ◌<◌, List, [], ◌∷◌, ◌++◌, length, take, get_or, map, sym, ◌∙◌, ap}
use Rattle.std.specs.List.{flat_map}
use Rattle.std.proofs.lemmas.Grind.{flat_map-append}
use Rattle.std.proofs.lemmas.List.{append-nil, take_more}
use Rattle.mx_base.specs.Paths.{group_name}
use Rattle.mx_meta.specs.declared.commit_meta.PartitionStats.{PartitionStats}
use Rattle.mx_meta.specs.declared.commit_meta.WriteStat.{WriteStat}

abbrev groups_in : PartitionStats → List (List ℕ)
groups_in p = map (λ (s : WriteStat). group_name p.partition s.file_id) p.stats

pub groups_next : (partitions : List PartitionStats) (i : ℕ) (x : PartitionStats) (old new : List (List ℕ)) → i < length partitions → x ≡ get_or partitions i x → old ≡ flat_map groups_in (take i partitions) → new ≡ old ++ groups_in x
    → new ≡ flat_map groups_in (take (i + 1) partitions)
groups_next partitions i x old new within is before more =
    more
    ∙ ap (λ (gs : List (List ℕ)). gs ++ groups_in x) before
    ∙ ap (λ (gs : List (List ℕ)). flat_map groups_in (take i partitions) ++ gs) (sym (append-nil (groups_in x)))
    ∙ sym (flat_map-append groups_in (take i partitions) (x ∷ []))
    ∙ ap (flat_map groups_in) (ap (λ (y : PartitionStats). take i partitions ++ y ∷ []) is ∙ sym (take_more partitions i x within))
