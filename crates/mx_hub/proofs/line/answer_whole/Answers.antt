use Rattle.std.proofs.Common.{◌∙◌, List, ℕ, rules, subst}
use Rattle.mx_ask.specs.Asks.{IsAsk}
use Rattle.mx_hub.specs.History.{IsNoAsk, moment}
use Rattle.mx_hub.proofs.Histories.{answers_ask, answers_none, answers_short}
use Rattle.mx_hub.proofs.line.answer_whole.Goals as goal

pub returns-in-Ok : goal.returns-in-Ok
returns-in-Ok g c bytes same =
    answers_ask g.N.Named.opening c.args.number bytes c.in-Ok.ask (moment g.S.Store.journal g.S.Store.faults g.S.Store.reads c.args.table.now) (moment g.S.Store.journal g.S.Store.faults g.S.Store.reads c.drive.new.table) c.drive.result
    (subst (λ (l : List ℕ). IsAsk l c.in-Ok.ask) (c.as_slice.ensures ∙ same.0) c.in-Ok.ensures.ok) c.drive.ensures.number c.drive.ensures.answered c.drive.ensures.faults c.drive.ensures.reads c.drive.ensures.reads_on

pub returns-in-Err-NotAnAsk : goal.returns-in-Err-NotAnAsk
returns-in-Err-NotAnAsk g c bytes same =
    answers_none g.N.Named.opening c.args.number bytes (moment g.S.Store.journal g.S.Store.faults g.S.Store.reads c.args.table.now) c.refused.result (subst IsNoAsk (c.as_slice.ensures ∙ same.0) (c.ask_of.ensures.not_an_ask (search rules))) c.refused.ensures.number c.refused.ensures.refused

pub returns-in-Err-NoMemory : goal.returns-in-Err-NoMemory
returns-in-Err-NoMemory g c bytes same =
    answers_short g.N.Named.opening c.args.number bytes (moment g.S.Store.journal g.S.Store.faults g.S.Store.reads c.args.table.now) c.refused-in-Err-NoMemory.result c.refused-in-Err-NoMemory.ensures.number c.refused-in-Err-NoMemory.ensures.refused
