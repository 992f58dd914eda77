use Rattle.std.proofs.Common.{◌∙◌, ap, sym, arith}
use Rattle.mx_base.specs.Digits.{instant_text}
use Rattle.mx_base.proofs.ObjectSplits.{boundary, no_instant, whole_name}
use Rattle.mx_base.proofs.splits.split_instant.Goals as goal

pub returns-in_default : goal.returns-in_default
returns-in_default c at ending small low same = absurd (cc (c.in_default.ensures.variant.1 (boundary c.args.name.now at ending low same)))

pub returns-in-Ok : goal.returns-in-Ok
returns-in-Ok c = (
  omega arith,
  whole_name c.args.name.now c.in-Some.digits.now c.in-Some.ending.now c.number.result c.in-Some.ensures.front c.in-Some.ensures.back (c.in-Ok.ensures.value ∙ ap instant_text (sym c.number.ensures.value)),
)

pub returns-in-Err : goal.returns-in-Err
returns-in-Err c at ending small low same = no_instant c.args.name.now c.in-Some.digits.now c.in-Some.ensures.front (λ is. absurd (cc (c.in-Err.ensures.ok.1 is))) at ending small same
