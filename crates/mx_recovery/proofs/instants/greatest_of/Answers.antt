use Rattle.mx_recovery.proofs.PlanLemmas.{greatest_start, greatest_next, greatest_all}
use Rattle.mx_recovery.proofs.instants.greatest_of.Goals as goal

pub loop-path-init : goal.loop-path-init
loop-path-init c = greatest_start c.args.least

pub loop-path-preserved : goal.loop-path-preserved
loop-path-preserved c =
    greatest_next c.args.least c.args.paths.now c.loop-path.path-index c.path-item.result c.loop-path.greatest c.later-greatest.result c.in_ok-instant_in.field-0 c.loop-path-test.true c.path-item.is c.loop-path.invariant
    c.in_ok-instant_in.ensures.found (λ at names. c.in_ok-instant_in.ensures.only at names) c.later-greatest.ensures

pub returns : goal.returns
returns c = greatest_all c.args.least c.args.paths.now c.loop-path.path-index c.loop-path.greatest c.loop-path-test.false c.loop-path.invariant
