use Rattle.std.proofs.Common.{IsSome}
use Rattle.mx_store.specs.Objects.{at_path}
use Rattle.mx_open.specs.Deciding.{IsReadableBase}
use Rattle.mx_open.proofs.LeastLemmas.{tested}
use Rattle.mx_open.proofs.faults.missing_base.Goals as goal

pub returns-then-is_readable_base : goal.returns-then-is_readable_base
returns-then-is_readable_base c = tested (IsReadableBase c.args.context.now) (λ q. IsSome (at_path c.args.held.now q)) c.args.base.now c.if-is_readable_base.ensures c.missing.result c.missing.ensures
