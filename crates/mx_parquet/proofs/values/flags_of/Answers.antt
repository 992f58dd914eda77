use Rattle.mx_parquet.proofs.ValueTurns.{one_flag, all_flags}
use Rattle.mx_parquet.proofs.values.flags_of.Goals as goal

pub loop-level-preserved : goal.loop-level-preserved
loop-level-preserved c = one_flag _ _ _ _ _ _ _ _ _ c.in-Some.ensures.cases.0 c.in_ok-push.ensures.ok c.flag_of-cell.ensures c.loop-level.invariant

pub returns : goal.returns
returns c = all_flags _ _ _ _ c.in_default.ensures.cases c.loop-level.invariant
