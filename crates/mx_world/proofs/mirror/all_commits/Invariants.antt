use Rattle.std.proofs.Common.{◌≡◌, ℕ, take}
use Rattle.std.specs.List.{list_any}
use Rattle.std.specs.BTreeSet.{contains}
use Rattle.std.specs.Ordering.{nat_cmp}
use Rattle.mx_world.specs.Mirror.{is_commit_at}
use Rattle.mx_world.proofs.mirror.all_commits.Given as goal

abbrev pub invariant-loop-path : goal.invariant-loop-path
invariant-loop-path l = (at : ℕ) → contains nat_cmp l.completed at ≡ list_any (λ path. is_commit_at path at) (take l.path-index l.paths)
