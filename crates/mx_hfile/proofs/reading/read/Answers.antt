use Rattle.std.proofs.Common.{arith}
use Rattle.mx_hfile.proofs.FileLemmas.{is_found, is_only}
use Rattle.mx_hfile.proofs.reading.read.Goals as goal

pub returns-clause-found : goal.returns-clause-found
returns-clause-found c = is_found c.args.bytes.now c.file_of.result (λ i. omega (arith, c.type_inv.bytes i)) c.file_of.ensures.read

pub returns-clause-only : goal.returns-clause-only
returns-clause-only c = λ es good le is. is_only c.args.bytes.now es c.file_of.result good le is c.file_of.ensures.read
