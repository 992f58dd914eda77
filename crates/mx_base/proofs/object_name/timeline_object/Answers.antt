use Rattle.mx_base.proofs.ObjectReadings.{timeline_undated, timeline_unread, timeline_exact, timeline_found}
use Rattle.mx_base.proofs.object_name.timeline_object.Goals as goal

pub returns-in_err-number-clause-only : goal.returns-in_err-number-clause-only
returns-in_err-number-clause-only c at kind state kept same = absurd (timeline_undated c.args.name.now c.in_err-number.ensures at kind state kept same)

pub returns-in_err-kind-clause-only : goal.returns-in_err-kind-clause-only
returns-in_err-kind-clause-only c at kind state kept same =
    let read = c.in_ok-number.ensures in
    absurd (timeline_unread c.in_ok-number.number c.args.name.now c.in_ok-number.ending.now read.0 read.1 (λ k s ends. absurd (cc (c.in_err-kind.ensures.only k s ends))) at kind state kept same)

pub returns-clause-found : goal.returns-clause-found
returns-clause-found c =
    let read = c.in_ok-number.ensures in
    timeline_found c.timeline_name.result c.in_ok-number.number c.in_ok-kind.kind c.in_ok-kind.state c.args.name.now c.in_ok-number.ending.now c.timeline_name.ensures read.1 c.in_ok-kind.ensures.found

pub returns-clause-only : goal.returns-clause-only
returns-clause-only c =
    let read = c.in_ok-number.ensures in
    timeline_exact c.timeline_name.result c.in_ok-number.number c.in_ok-kind.kind c.in_ok-kind.state c.args.name.now c.in_ok-number.ending.now c.timeline_name.ensures read.0 read.1 c.in_ok-kind.ensures.only
