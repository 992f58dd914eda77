use Rattle.std.proofs.Common.{◌≡◌, ℕ, List, take}
use Rattle.std.specs.BTreeSet.{contains}
use Rattle.std.specs.Cmp.Lexicographic.{slice_cmp}
use Rattle.std.specs.List.{list_any}
use Rattle.std.specs.List.Sorted.{IsStrictlySortedBy}
use Rattle.std.specs.Ordering.{nat_cmp}
use Rattle.mx_commit.specs.Grouping.{has_id}
use Rattle.mx_commit.proofs.meta.file_ids.Given as goal

abbrev pub invariant-loop-entry : goal.invariant-loop-entry
invariant-loop-entry l = record {
  has : (q : List ℕ) → contains (slice_cmp nat_cmp) l.ids q ≡ list_any (has_id q) (take l.entry-index l.written);
  rise : IsStrictlySortedBy (slice_cmp nat_cmp) l.ids.keys;
}
