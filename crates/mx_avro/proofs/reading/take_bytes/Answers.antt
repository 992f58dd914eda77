use Rattle.std.proofs.Common.{arith, ◌∙◌}
use Rattle.mx_avro.proofs.Longs.{bytes_again, bytes_found, text_fits}
use Rattle.mx_avro.proofs.reading.take_bytes.Goals as goal

pub returns-clause-found : goal.returns-clause-found
returns-clause-found c = bytes_found c.args.bytes.now c.args.at c.bytes_of.result (λ i. omega (arith, c.type_inv.bytes i)) c.bytes_of.ensures

pub returns-clause-only : goal.returns-clause-only
returns-clause-only c = λ text rest e. c.bytes_of.ensures ∙ bytes_again c.args.bytes.now c.args.at text rest (text_fits c.args.bytes.now c.args.at text rest (omega arith) e) e
