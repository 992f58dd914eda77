use Rattle.mx_open.specs.Deciding.{IsFine}
use Rattle.mx_open.proofs.KindLemmas.{said_so, said_not}
use Rattle.mx_open.proofs.LeastLemmas.{alone_so, alone_copy}
use Rattle.mx_open.proofs.faults.damaged_at.Goals as goal

pub returns-then-branch : goal.returns-then-branch
returns-then-branch c = record {
  least = alone_so (IsFine c.args.held.now) c.args.path.now (said_so c.in_ok-is_fine.field-0 (IsFine c.args.held.now c.args.path.now) c.if-branch.true c.in_ok-is_fine.ensures.fine);
}

pub returns : goal.returns
returns c = record {
  least =
      alone_copy (IsFine c.args.held.now) c.args.path.now c.in_ok-clone.field-0 c.in_ok-clone.ensures.cases
      (said_not c.in_ok-is_fine.field-0 (IsFine c.args.held.now c.args.path.now) c.if-branch.false c.in_ok-is_fine.ensures.fine);
}
