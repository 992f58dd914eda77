use Rattle.std.proofs.Common.{map}
use Rattle.std.specs.Prelude.{Contains}
use Rattle.std.specs.Map.Iter.{deref}
use Rattle.mx_timeline.specs.Timeline.{IsGreatest}
use Rattle.mx_timeline.specs.Stages.{IsUpto}
use Rattle.mx_timeline.proofs.stages.Stages.greatest_upto.Given as goal

abbrev pub invariant-loop-at : goal.invariant-loop-at
invariant-loop-at l = IsGreatest (λ q. Contains (map deref l.yielded) q × IsUpto l.bound q) l.greatest
