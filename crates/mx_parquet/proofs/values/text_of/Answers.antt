use Rattle.std.proofs.Common.{◌∙◌}
use Rattle.mx_parquet.proofs.ValueTurns.{text_reads, no_text}
use Rattle.mx_parquet.proofs.values.text_of.Goals as goal

pub returns-in_ok-from_str-in-Ok : goal.returns-in_ok-from_str-in-Ok
returns-in_ok-from_str-in-Ok c = text_reads _ _ _ _ c.in_ok-text.ensures c.in-Ok.ensures.cases.1 (c.in_ok-from_str-in-Ok.ensures ∙ c.in-Ok.ensures.cases.0)

pub returns-in-Err : goal.returns-in-Err
returns-in-Err c = no_text _ _ _ c.in_ok-text.ensures c.in-Err.ensures.cases.0
