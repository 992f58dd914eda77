use Rattle.mx_world.proofs.ListedLemmas.{upto_completed}
use Rattle.mx_world.proofs.mirror.Mirror.completed_upto.Goals as goal

pub returns : goal.returns
returns c = upto_completed c.args.self.now c.args.at c.instants_upto.result c.instants_upto.ensures.instants c.instants_upto.ensures.rising
