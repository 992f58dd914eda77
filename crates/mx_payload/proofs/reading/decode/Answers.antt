use Rattle.std.proofs.Common.{arith}
use Rattle.mx_payload.proofs.Payloads.{decodes_found, decodes_only}
use Rattle.mx_payload.proofs.reading.decode.Goals as goal

pub returns-clause-found : goal.returns-clause-found
returns-clause-found c = decodes_found c.args.bytes.now c.read.result (λ i. omega (arith, c.type_inv.bytes i)) c.read.ensures

pub returns-clause-only : goal.returns-clause-only
returns-clause-only c = λ p good e. decodes_only c.args.bytes.now p c.read.result good e c.read.ensures
