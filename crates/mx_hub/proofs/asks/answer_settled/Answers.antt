use Rattle.std.proofs.Common.{refl}
use Rattle.mx_world.specs.State.{standing}
use Rattle.mx_hub.proofs.AskLemmas.{counted_is}
use Rattle.mx_hub.proofs.asks.answer_settled.Goals as goal

pub returns-clause-counted : goal.returns-clause-counted
returns-clause-counted g c =
    counted_is g.N.Named.opening (g.S.Store.journal c.args.table.now.store) c.args.table.now.mirror c.args.table.now.last c.args.table.now.applied c.args.table.now.doubt c.requires.sure c.seq-begun.ensures.stands (standing g.S.Store.journal c.args.table.now) refl refl
