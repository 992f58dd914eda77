use Rattle.mx_groups.proofs.GroupLemmas.{those_next, those_all, those_whole}
use Rattle.mx_groups.proofs.groups.Groups.of.Goals as goal

pub loop-commit-preserved : goal.loop-commit-preserved
loop-commit-preserved c objects are =
    those_next objects c.args.commits.now c.loop-commit.commit-index c.commit-item.result c.loop-commit.groups c.add.new.self are c.loop-commit-test.true c.commit-item.is (c.loop-commit.invariant objects are) c.in_ok-add.ensures.ok

pub returns : goal.returns
returns c objects are =
    those_all objects c.args.commits.now c.loop-commit.groups are (those_whole objects c.args.commits.now c.loop-commit.commit-index c.loop-commit.groups c.loop-commit-test.false (c.loop-commit.invariant objects are))
