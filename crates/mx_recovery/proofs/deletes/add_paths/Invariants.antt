use Rattle.std.proofs.Common.{◌≡◌, ◌||◌, ℕ, List, take}
use Rattle.std.specs.BTreeSet.{contains}
use Rattle.std.specs.Ordering.{nat_cmp}
use Rattle.std.specs.Cmp.Lexicographic.{slice_cmp}
use Rattle.mx_recovery.specs.Planning.{stands_among}
use Rattle.mx_recovery.proofs.deletes.add_paths.Given as goal

abbrev pub invariant-loop-path : goal.invariant-loop-path
invariant-loop-path l = (q : List ℕ) → contains (slice_cmp nat_cmp) l.standing q ≡ (contains (slice_cmp nat_cmp) l.fn.standing q || stands_among (take l.path-index l.paths) q)
