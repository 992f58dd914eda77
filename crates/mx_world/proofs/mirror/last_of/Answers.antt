use Rattle.std.proofs.lemmas.Map.Keys.{ge_from_not_lt}
use Rattle.mx_world.proofs.mirror.last_of.Goals as goal

pub returns-in-Some-clause-above : goal.returns-in-Some-clause-above
returns-in-Some-clause-above c at has = ge_from_not_lt c.in-Some.at.now at (c.in-Some.ensures.greatest at has)
