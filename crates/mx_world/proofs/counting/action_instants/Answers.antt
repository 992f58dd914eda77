use Rattle.std.specs.Map.Iter.{deref}
use Rattle.mx_world.proofs.CountLemmas.{actions_next}
use Rattle.mx_world.proofs.counting.action_instants.Goals as goal

pub loop-path-preserved : goal.loop-path-preserved
loop-path-preserved c = actions_next deref c.loop-path.yielded c.in-Some.path c.loop-path.instants c.add_instant.new.instants c.loop-path.invariant c.in_ok-add_instant.ensures
