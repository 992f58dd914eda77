use Rattle.std.proofs.Common.{arith}
use Rattle.mx_parquet.proofs.Structs.{root-len}
use Rattle.mx_parquet.proofs.thrift_size.root_len.Goals as goal

pub returns-clause-value : goal.returns-clause-value
returns-clause-value c = omega (arith, root-len c.args.count, c.long_len.ensures.value)
