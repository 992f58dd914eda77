use Rattle.std.proofs.Common.{arith, ap, length}
use Rattle.mx_hfile.proofs.DividingLemmas.{entry-length}
use Rattle.mx_hfile.proofs.dividing.entry_len.Goals as goal

pub returns : goal.returns
returns c = omega (arith, ap length c.as_slice.ensures, ap length c.as_slice-2.ensures, entry-length c.args.entry.now)
