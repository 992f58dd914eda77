use Rattle.std.proofs.Common.{◌-◌, ◌∙◌, refl, arith, rules, length-set}
use Rattle.mx_base.proofs.Places.{print_step, printed_all, starts}
use Rattle.mx_base.proofs.instant.seventeen_digits.Goals as goal

pub loop-place-init : goal.loop-place-init
loop-place-init c = record { printed = search (rules, starts); within = omega arith; len = refl }

pub loop-place-preserved : goal.loop-place-preserved
loop-place-preserved c =
    let i = c.loop-place.invariant in record {
      printed = print_step (c.loop-place.place - 1) c.loop-place.place c.loop-place.rest c.loop-place.out (omega arith) (omega arith) ∙ i.printed;
      within = omega arith;
      len = length-set c.loop-place.out _ _ ∙ i.len;
    }

pub returns : goal.returns
returns c = printed_all c.loop-place.place c.loop-place.rest c.args.number c.loop-place.out (omega arith) c.loop-place.invariant.printed
