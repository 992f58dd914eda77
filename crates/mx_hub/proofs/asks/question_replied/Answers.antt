use Rattle.std.proofs.Common.{ap, refl}
use Rattle.mx_world.specs.State.{Standing, standing}
use Rattle.mx_hub.proofs.AskLemmas.{is_table, looked, reads_looked}
use Rattle.mx_hub.proofs.asks.question_replied.Goals as goal

pub returns-in-Ok-clause-reply : goal.returns-in-Ok-clause-reply
returns-in-Ok-clause-reply g c =
    looked g.N.Named.opening c.args.question.now c.args.at (standing g.S.Store.journal c.args.table.now) (standing g.S.Store.journal c.look_up.new.table) c.in-Ok.reply _ _ c.in-Ok.ensures.same
    (is_table g.N.Named.opening (g.S.Store.journal c.args.table.now.store) c.args.table.now.mirror c.args.table.now.last c.args.table.now.applied c.args.table.now.doubt c.requires.sure c.seq-seq.ensures.stands)
    c.in-Ok.ensures.answer

pub returns-in-Ok-clause-reads : goal.returns-in-Ok-clause-reads
returns-in-Ok-clause-reads g c =
    reads_looked g.N.Named.opening (g.S.Store.journal c.args.table.now.store) (g.S.Store.journal c.look_up.new.table.store) c.args.question.now c.args.at c.in-Ok.reply _ _ (ap (λ (s : Standing). s.journal) c.in-Ok.ensures.same)
    (is_table g.N.Named.opening (g.S.Store.journal c.args.table.now.store) c.args.table.now.mirror c.args.table.now.last c.args.table.now.applied c.args.table.now.doubt c.requires.sure c.seq-seq.ensures.stands)
    c.in-Ok.ensures.answer
