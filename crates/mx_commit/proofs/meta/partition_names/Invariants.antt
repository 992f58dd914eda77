use Rattle.std.proofs.Common.{◌≡◌, ℕ, List, take}
use Rattle.std.specs.BTreeSet.{contains}
use Rattle.std.specs.Cmp.Lexicographic.{slice_cmp}
use Rattle.std.specs.List.{list_any}
use Rattle.std.specs.Ordering.{nat_cmp}
use Rattle.mx_commit.specs.Grouping.{is_under}
use Rattle.mx_commit.proofs.meta.partition_names.Given as goal

abbrev pub invariant-loop-entry : goal.invariant-loop-entry
invariant-loop-entry l = (q : List ℕ) → contains (slice_cmp nat_cmp) l.names q ≡ list_any (is_under q) (take l.entry-index l.written)
