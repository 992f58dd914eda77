use Rattle.std.proofs.Common.{arith}
use Rattle.mx_thrift.proofs.Values.{found, only}
use Rattle.mx_thrift.proofs.reading.read_struct.Goals as goal

pub returns-clause-found : goal.returns-clause-found
returns-clause-found c = found c.args.bytes.now c.args.at c.read.result (λ i. omega (arith, c.type_inv.bytes i)) c.read.ensures

pub returns-clause-only : goal.returns-clause-only
returns-clause-only c = λ fields text rest e g. only c.args.bytes.now c.args.at c.read.result fields text rest c.read.ensures e g
