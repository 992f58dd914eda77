use Rattle.std.proofs.Common.{arith}
use Rattle.mx_log.proofs.LogLemmas.{is_found, is_only}
use Rattle.mx_log.proofs.reading.read_log.Goals as goal

pub returns-clause-found : goal.returns-clause-found
returns-clause-found c = is_found c.args.bytes.now c.log_of.result (λ i. omega (arith, c.type_inv.bytes i)) c.log_of.ensures

pub returns-clause-only : goal.returns-clause-only
returns-clause-only c = λ at es m good le is. is_only c.args.bytes.now at es c.log_of.result m good le is c.log_of.ensures
