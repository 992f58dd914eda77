use Rattle.std.proofs.Common.{rules, arith}
use Rattle.mx_commit.proofs.PlanLemmas.{logs_meta}
use Rattle.mx_commit.proofs.plan.logs_written.Goals as goal

pub unreachable-requires : goal.unreachable-requires
unreachable-requires c = logs_meta c.args.files.now c.args.at c.in_ok-meta.field-0 c.in_ok-logs.logs c.requires.meant (omega (arith, c.number-number.ensures.bound, c.number-number.ensures.value)) (search rules) c.in_ok-meta.ensures c.in-None.is
