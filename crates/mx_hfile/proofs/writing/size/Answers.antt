use Rattle.std.proofs.Common.{arith}
use Rattle.mx_hfile.proofs.DividingLemmas.{encoding-length}
use Rattle.mx_hfile.proofs.writing.size.Goals as goal

pub returns : goal.returns
returns c = omega (arith, encoding-length c.args.entries.now, c.sizes_of-sizes.ensures.data_len, c.sizes_of-sizes.ensures.index_len)
