use Rattle.std.proofs.Common.{rules}
use Rattle.mx_open.proofs.KeyLemmas.{first_of}
use Rattle.mx_open.proofs.new_table.first_path.Goals as goal

pub returns-in-Some-clause-first : goal.returns-in-Some-clause-first
returns-in-Some-clause-first g c = first_of (g.S.Store.journal c.args.store.now) c.as_slice.result.now (search rules) _ (search rules)

pub returns-clause-first : goal.returns-clause-first
returns-clause-first g c = first_of (g.S.Store.journal c.args.store.now) c.as_slice.result.now (search rules) _ (search rules)
