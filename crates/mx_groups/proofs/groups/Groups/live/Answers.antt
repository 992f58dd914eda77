use Rattle.mx_groups.proofs.CountLemmas.{live_counts}
use Rattle.mx_groups.proofs.groups.Groups.live.Goals as goal

pub returns : goal.returns
returns c objects are = live_counts objects c.args.self.now c.count_of.result c.count_of.ensures.count c.count_of.ensures.rising are
