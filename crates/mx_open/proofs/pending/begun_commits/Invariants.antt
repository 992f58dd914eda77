use Rattle.std.proofs.Common.{◌≡◌, ℕ, take}
use Rattle.std.specs.List.{list_any}
use Rattle.std.specs.BTreeSet.{contains}
use Rattle.std.specs.Ordering.{nat_cmp}
use Rattle.mx_open.specs.Leaving.{is_pending_by}
use Rattle.mx_open.proofs.pending.begun_commits.Given as goal

abbrev pub invariant-loop-path : goal.invariant-loop-path
invariant-loop-path l = (q : ℕ) → contains nat_cmp l.instants q ≡ list_any (is_pending_by l.completed q) (take l.path-index l.names)
