use Rattle.std.proofs.Common.{arith}
use Rattle.mx_parquet.proofs.Structs.{header-len}
use Rattle.mx_parquet.proofs.thrift_size.header_len.Goals as goal

pub returns-clause-value : goal.returns-clause-value
returns-clause-value c = omega (arith, header-len c.args.value_count c.args.page_len, c.long_len.ensures.value, c.long_len-2.ensures.value)
