use Rattle.mx_world.proofs.ListedLemmas.{listed_mirror}
use Rattle.mx_world.proofs.mirror.Mirror.of.Goals as goal

pub returns : goal.returns
returns c objects config all commits = listed_mirror objects _ c.args.paths.now config all c.in_ok-all_names.ensures c.in_ok-all_commits.ensures (c.in_ok-of.ensures objects commits)
