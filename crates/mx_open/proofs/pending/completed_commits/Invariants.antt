use Rattle.std.proofs.Common.{◌≡◌, ℕ, take}
use Rattle.std.specs.List.{list_any}
use Rattle.std.specs.BTreeSet.{contains}
use Rattle.std.specs.Ordering.{nat_cmp}
use Rattle.mx_base.specs.Paths.{commit_instant}
use Rattle.mx_open.specs.Leaving.{is_at}
use Rattle.mx_open.proofs.pending.completed_commits.Given as goal

abbrev pub invariant-loop-path : goal.invariant-loop-path
invariant-loop-path l = (q : ℕ) → contains nat_cmp l.instants q ≡ list_any (λ path. is_at q (commit_instant path)) (take l.path-index l.names)
