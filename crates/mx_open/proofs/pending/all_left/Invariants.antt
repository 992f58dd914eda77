use Rattle.std.proofs.Common.{◌≡◌, map}
use Rattle.std.specs.Map.Iter.{deref}
use Rattle.mx_open.specs.Leaving.{leftover}
use Rattle.mx_open.proofs.pending.all_left.Given as goal

abbrev pub invariant-loop-at : goal.invariant-loop-at
invariant-loop-at l = l.left ≡ map (leftover l.held l.logs) (map deref l.yielded)
