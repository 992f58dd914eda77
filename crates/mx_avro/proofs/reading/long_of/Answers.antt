use Rattle.std.proofs.Common.{arith, ap, length, length-drop}
use Rattle.mx_avro.proofs.reading.long_of.Goals as goal

pub returns-clause-within : goal.returns-clause-within
returns-clause-within c = omega (arith, c.in_ok-number.ensures.within, ap length c.behind-rest.ensures, length-drop c.args.at c.args.bytes.now)
