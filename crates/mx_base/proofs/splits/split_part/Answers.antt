use Rattle.mx_base.proofs.ObjectSplits.{no_part}
use Rattle.mx_base.proofs.splits.split_part.Goals as goal

pub returns : goal.returns
returns c = no_part c.args.name.now c.in_default.ensures.cases c.in_default-strip_prefix.ensures.cases c.in_default-strip_prefix-2.ensures.cases c.in_default-strip_prefix-3.ensures.cases
