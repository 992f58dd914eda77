use Rattle.std.proofs.Common.{sym, subst}
use Rattle.mx_lines.specs.declared.line.Line.{Line}
use Rattle.mx_hub.specs.History.{AnswersTaken, moment}
use Rattle.mx_hub.proofs.Histories.{answers_none, long_is_none}
use Rattle.mx_hub.proofs.line.answer.Goals as goal

pub returns-in-Whole : goal.returns-in-Whole
returns-in-Whole g c =
    subst (λ (l : Line). AnswersTaken g.N.Named.opening c.args.number l (moment g.S.Store.journal g.S.Store.faults g.S.Store.reads c.args.table.now) (moment g.S.Store.journal g.S.Store.faults g.S.Store.reads c.answer_whole.new.table) c.answer_whole.result) (sym c.in-Whole.is) c.answer_whole.ensures

pub returns-in-Long : goal.returns-in-Long
returns-in-Long g c =
    subst (λ (l : Line). AnswersTaken g.N.Named.opening c.args.number l (moment g.S.Store.journal g.S.Store.faults g.S.Store.reads c.args.table.now) (moment g.S.Store.journal g.S.Store.faults g.S.Store.reads c.args.table.now) c.refused.result) (sym c.in-Long.is)
    (λ bytes long. answers_none g.N.Named.opening c.args.number bytes (moment g.S.Store.journal g.S.Store.faults g.S.Store.reads c.args.table.now) c.refused.result (long_is_none bytes long) c.refused.ensures.number c.refused.ensures.refused)
