use Rattle.std.proofs.Common.{List, ℕ, sym, ◌∙◌, ap, Ok}
use Rattle.mx_payload.proofs.Texts.{reads_text, refuses_text}
use Rattle.mx_payload.proofs.fields.text_of.Goals as goal

pub returns-in_ok-from_str-in-Ok : goal.returns-in_ok-from_str-in-Ok
returns-in_ok-from_str-in-Ok c =
    let utf8 = c.in-Ok.ensures.cases in
    reads_text _ _ _ c.in_ok-text.ensures utf8.1 ∙ ap (λ (text : List ℕ). Ok (text, c.in_ok-text.rest.now)) (sym (c.in_ok-from_str-in-Ok.ensures ∙ utf8.0))

pub returns-in-Err : goal.returns-in-Err
returns-in-Err c = rw c.bad.ensures (refuses_text _ _ _ c.in_ok-text.ensures c.in-Err.ensures.cases.0)
