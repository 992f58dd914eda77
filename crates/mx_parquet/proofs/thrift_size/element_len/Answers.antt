use Rattle.std.proofs.Common.{arith}
use Rattle.mx_parquet.specs.Seen.{seen}
use Rattle.mx_parquet.proofs.Structs.{element-len}
use Rattle.mx_parquet.proofs.thrift_size.element_len.Goals as goal

pub returns : goal.returns
returns c = omega (arith, element-len (seen c.args.column), c.name_len.ensures, c.fixed_element_len.ensures.value, c.saturating_add.ensures)
