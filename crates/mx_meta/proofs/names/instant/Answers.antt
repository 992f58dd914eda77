use Rattle.std.proofs.Common.{arith}
use Rattle.mx_meta.proofs.NameLemmas.{instant_found, no_instant}
use Rattle.mx_meta.proofs.names.instant.Goals as goal

pub returns-in-Ok : goal.returns-in-Ok
returns-in-Ok c = instant_found c.args.text.now c.in-Ok.at c.in-Ok.ensures.value (omega arith)

pub returns-in-Err : goal.returns-in-Err
returns-in-Err c = no_instant c.args.text.now (λ is. absurd (cc (c.in-Err.ensures.ok.1 is)))
