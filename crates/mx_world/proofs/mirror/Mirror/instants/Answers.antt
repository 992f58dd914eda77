use Rattle.mx_world.proofs.CountLemmas.{all_instants_counted}
use Rattle.mx_world.proofs.mirror.Mirror.instants.Goals as goal

pub returns : goal.returns
returns c = all_instants_counted c.args.self.now c.count_instants.result c.count_instants.ensures
