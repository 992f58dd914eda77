use Rattle.std.proofs.Common.{◌∙◌, sym, ap, Ok}
use Rattle.mx_parquet.proofs.Texts.{text_is, text_is_none}
use Rattle.mx_parquet.proofs.elements.text_of.Goals as goal

pub returns-in-Ok : goal.returns-in-Ok
returns-in-Ok c = text_is _ _ _ c.in_ok-bytes_of.ensures c.in-Ok.ensures.cases.1 ∙ ap Ok (sym c.in-Ok.ensures.cases.0)

pub returns-in-Err : goal.returns-in-Err
returns-in-Err c = text_is_none _ _ _ c.in_ok-bytes_of.ensures c.in-Err.ensures.cases.0
