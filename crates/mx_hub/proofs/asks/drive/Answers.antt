use Rattle.std.proofs.Common.{sym, subst, ◌∙◌, ap}
use Rattle.mx_ask.specs.declared.reply.Reply.{Reply}
use Rattle.mx_world.specs.State.{standing}
use Rattle.mx_hub.specs.Answers.{CountsReply}
use Rattle.mx_hub.proofs.AskLemmas.{counts_store, held_up, settled_answer}
use Rattle.mx_hub.proofs.asks.drive.Goals as goal

pub returns-in-Ok-clause-answered : goal.returns-in-Ok-clause-answered
returns-in-Ok-clause-answered g c =
    settled_answer g.N.Named.opening c.args.ask.now (standing g.S.Store.journal c.args.table.now) (standing g.S.Store.journal c.settle.new.self) (standing g.S.Store.journal c.answer_settled.new.table) c.answer_settled.result
    c.in-Ok.ensures.settles c.answer_settled.ensures.counted c.answer_settled.ensures.begun c.answer_settled.ensures.seq c.answer_settled.ensures.reply

pub returns-in-Err-clause-answered : goal.returns-in-Err-clause-answered
returns-in-Err-clause-answered g c =
    held_up g.N.Named.opening c.args.ask.now (standing g.S.Store.journal c.args.table.now) (standing g.S.Store.journal c.settle.new.self) c.refused.result c.in-Err.error c.store_refusal.result
    c.in-Err.ensures.settles c.store_refusal.ensures c.refused.ensures.refused
