use Rattle.std.proofs.Common.{map}
use Rattle.std.specs.Map.Iter.{deref}
use Rattle.mx_world.specs.Instants.{HasActionsOf}
use Rattle.mx_world.proofs.counting.action_instants.Given as goal

abbrev pub invariant-loop-path : goal.invariant-loop-path
invariant-loop-path l = HasActionsOf (map deref l.yielded) l.instants
