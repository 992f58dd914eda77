use Rattle.std.proofs.Common.{sym, rules, subst, ◌<◌, length}
use Rattle.mx_timeline.specs.Timeline.{IsFirstBad}
use Rattle.mx_timeline.proofs.NamesLemmas.{names-next, first_bad}
use Rattle.mx_timeline.proofs.names.object_names.Goals as goal

pub returns-in-None-clause-err : goal.returns-in-None-clause-err
returns-in-None-clause-err c =
    let within : c.loop-name.name-index < length c.args.names.now = search rules in
    subst (IsFirstBad c.args.names.now) (sym c.in_ok-clone-in-None.ensures.cases)
    (first_bad c.args.names.now c.loop-name.objects c.loop-name.name-index c.name-item.result within (search rules) c.loop-name.invariant (λ h. absurd (cc (c.in-None.ensures.only h.0 h.1.0 h.1.1))))

pub loop-name-preserved : goal.loop-name-preserved
loop-name-preserved c =
    let within : c.loop-name.name-index < length c.args.names.now = search rules in
    names-next c.args.names.now c.loop-name.objects c.push.new.self c.loop-name.name-index c.name-item.result c.in-Some.object within (search rules) c.in_ok-push-in-Some.ensures.ok c.loop-name.invariant (search rules)
