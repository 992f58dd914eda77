use Rattle.mx_groups.proofs.GroupLemmas.{listed_less}
use Rattle.mx_groups.proofs.groups.Groups.remove.Goals as goal

pub returns : goal.returns
returns c q = listed_less c.args.at c.args.self.now.commits c.remove.new.self c.remove.ensures.updates q
