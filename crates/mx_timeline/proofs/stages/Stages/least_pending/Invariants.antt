use Rattle.std.proofs.Common.{◌≡◌, map}
use Rattle.std.specs.Prelude.{Contains, false}
use Rattle.std.specs.Map.Iter.{deref}
use Rattle.std.specs.BTreeSet.{contains}
use Rattle.std.specs.Ordering.{nat_cmp}
use Rattle.mx_timeline.specs.Timeline.{IsLeast}
use Rattle.mx_timeline.proofs.stages.Stages.least_pending.Given as goal

abbrev pub invariant-loop-at : goal.invariant-loop-at
invariant-loop-at l = IsLeast (λ q. Contains (map deref l.yielded) q × (contains nat_cmp l.self.completed q ≡ false)) l.least
