use Rattle.std.proofs.Common.{IsSome}
use Rattle.mx_store.specs.Objects.{at_path}
use Rattle.mx_open.specs.Deciding.{IsReadableLog}
use Rattle.mx_open.proofs.LeastLemmas.{tested}
use Rattle.mx_open.proofs.faults.missing_log.Goals as goal

pub returns-then-is_readable_log : goal.returns-then-is_readable_log
returns-then-is_readable_log c = tested (IsReadableLog c.args.context.now c.args.at) (λ q. IsSome (at_path c.args.held.now q)) c.args.log.now c.if-is_readable_log.ensures c.missing.result c.missing.ensures
