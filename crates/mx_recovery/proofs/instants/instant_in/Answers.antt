use Rattle.std.proofs.Common.{◌∙◌}
use Rattle.mx_world.proofs.DrawnLemmas.{named_instant}
use Rattle.mx_recovery.proofs.instants.instant_in.Goals as goal

pub returns-in-Some-clause-only : goal.returns-in-Some-clause-only
returns-in-Some-clause-only c at names = c.instant_of.ensures ∙ named_instant c.args.path.now c.in-Some.name c.in-Some.ensures.found.0 c.in-Some.ensures.found.1 at names
