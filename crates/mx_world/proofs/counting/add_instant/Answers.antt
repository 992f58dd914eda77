use Rattle.mx_world.proofs.CountLemmas.{too_some, too_none}
use Rattle.mx_world.proofs.counting.add_instant.Goals as goal

pub returns-in_ok-insert : goal.returns-in_ok-insert
returns-in_ok-insert c = too_some c.args.path.now c.in-Some.at c.action_instant.result c.args.instants.now c.insert.new.self c.in-Some.is c.in-Some.ensures.found c.action_instant.ensures.only c.in_ok-insert.ensures.updates.0

pub returns-in_default : goal.returns-in_default
returns-in_default c = too_none c.args.path.now c.action_instant.result c.args.instants.now c.in_default.is c.action_instant.ensures.only
