use Rattle.mx_world.proofs.MirrorLemmas.{commits_back}
use Rattle.mx_world.proofs.mirror.add_path.Goals as goal

pub returns-then-is_err-clause-same_commits : goal.returns-then-is_err-clause-same_commits
returns-then-is_err-clause-same_commits c = commits_back c.args.completed.now _ _ c.args.path.now c.in_ok-add_commit.ensures.ok c.remove_commit.ensures
