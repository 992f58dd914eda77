use Rattle.std.proofs.lemmas.Result.{IfOk-weaker}
use Rattle.serde_json.specs.View.{view}
use Rattle.mx_ask.proofs.AskLemmas.{IsAsk-only}
use Rattle.mx_ask.proofs.reading.ask_of.Goals as goal

pub returns-in-Ok-clause-only : goal.returns-in-Ok-clause-only
returns-in-Ok-clause-only c =
    IfOk-weaker c.ask_in.result _ _ (λ ask is other is_other. IsAsk-only c.args.line.now (view c.in-Ok.json.value) ask other c.in-Ok.ensures.ok is.0 is.1 is_other) c.ask_in.ensures.ok
