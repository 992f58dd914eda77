use Rattle.std.proofs.Common.{sym, ◌∙◌, inr, refl}
use Rattle.std.proofs.lemmas.Result.{on_ok_weaker}
use Rattle.mx_open.proofs.LeavingLemmas.{log_next}
use Rattle.mx_open.proofs.pending.note_log.Goals as goal

pub returns-in-Some : goal.returns-in-Some
returns-in-Some c =
    on_ok_weaker c.note_log_at.result
    (λ adds q has. log_next c.in-Some.at c.args.path.now c.args.logs.now c.note_log_at.new.logs q c.in-Some.ensures.found (λ t log. cc (sym c.in-Some.is ∙ c.log_instant.ensures.only t log)) (adds q has))
    c.note_log_at.ensures

pub returns-in-None : goal.returns-in-None
returns-in-None c at has = inr (λ log. absurd (cc (sym c.in-None.is ∙ c.log_instant.ensures.only at log)), refl)
