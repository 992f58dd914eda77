use Rattle.std.proofs.Common.{arith, sym, ◌∙◌}
use Rattle.mx_avro.proofs.Longs.{long_again, long_found, long_cut, long_is_cut, long_faults}
use Rattle.mx_avro.proofs.reading.take_long.Goals as goal

pub returns-clause-found : goal.returns-clause-found
returns-clause-found c = long_found c.args.bytes.now c.args.at c.long_of.result (λ i. omega (arith, c.type_inv.bytes i)) c.long_of.ensures.exact

pub returns-clause-only : goal.returns-clause-only
returns-clause-only c = λ n rest fits e. c.long_of.ensures.exact ∙ long_again c.args.bytes.now c.args.at n rest fits e

pub returns-clause-short : goal.returns-clause-short
returns-clause-short c = (λ e. long_cut c.args.bytes.now c.args.at (sym c.long_of.ensures.exact ∙ e), λ h. c.long_of.ensures.exact ∙ long_is_cut c.args.bytes.now c.args.at h)

pub returns-clause-fault : goal.returns-clause-fault
returns-clause-fault c = long_faults c.args.bytes.now c.args.at c.long_of.result c.long_of.ensures.exact
