use Rattle.mx_groups.proofs.GroupLemmas.{newest_of_groups}
use Rattle.mx_groups.proofs.groups.Groups.newest.Goals as goal

pub returns : goal.returns
returns c objects are = newest_of_groups objects c.args.self.now c.args.group.now c.newest_of.result c.newest_of.ensures.counts c.newest_of.ensures.above are
