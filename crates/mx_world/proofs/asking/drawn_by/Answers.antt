use Rattle.mx_world.proofs.DrawnLemmas.{drawn_some, drawn_none}
use Rattle.mx_world.proofs.asking.drawn_by.Goals as goal

pub returns-in-Some-clause-after : goal.returns-in-Some-clause-after
returns-in-Some-clause-after c = rw c.later.ensures (drawn_some c.args.path.now c.args.last c.in-Some.at c.requested_at.result c.in-Some.is c.in-Some.ensures.found c.requested_at.ensures.only)

pub returns-in-None-clause-after : goal.returns-in-None-clause-after
returns-in-None-clause-after c = drawn_none c.args.path.now c.args.last c.requested_at.result c.in-None.is c.requested_at.ensures.only
