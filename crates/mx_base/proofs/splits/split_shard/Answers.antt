use Rattle.std.proofs.Common.{◌∙◌, arith}
use Rattle.mx_base.proofs.ObjectSplits.{no_shard}
use Rattle.mx_base.proofs.splits.split_shard.Goals as goal

pub returns-in_default : goal.returns-in_default
returns-in_default c = no_shard c.args.name.now c.as_bytes.result.now (c.as_bytes.ensures.value ∙ c.in_ok-digits.ensures.front) (omega (arith, c.in_ok-digits.ensures.front_len, c.as_bytes.ensures.len)) c.in_default.ensures
