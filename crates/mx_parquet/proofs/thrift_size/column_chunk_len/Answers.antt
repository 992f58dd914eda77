use Rattle.std.proofs.Common.{arith}
use Rattle.mx_parquet.specs.Seen.{seen}
use Rattle.mx_parquet.proofs.Structs.{column_chunk-len}
use Rattle.mx_parquet.proofs.thrift_size.column_chunk_len.Goals as goal

pub returns : goal.returns
returns c =
    omega (
      arith,
      column_chunk-len (seen c.args.column) c.args.value_count c.args.size c.args.offset,
      c.name_len.ensures,
      c.long_len.ensures.value,
      c.long_len-2.ensures.value,
      c.long_len-3.ensures.value,
      c.saturating_add.ensures,
    )
