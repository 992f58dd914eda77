use Rattle.std.proofs.Common.{arith, ◌≡◌, ◌<◌, ◌^◌, ◌*◌, ◌-◌}
use Rattle.mx_avro.proofs.Groups.{writes_one, writes_last, less_left}
use Rattle.mx_avro.proofs.writing.put_groups.Goals as goal
use Rattle.mx_avro.proofs.writing.put_groups.Goals.{else-loop-test, then-loop-test+then-rest-lt128}

pub loop-preserved : goal.loop-preserved
loop-preserved c =
    let l = c.loop in
    record { spelled = rw c.in_ok-push.ensures.items (writes_one l.out.items _ l.counter l.rest c.loop-test.true c.if-rest-lt128.false l.invariant.spelled); fits = less_left l.counter l.rest c.loop-test.true l.invariant.fits }

pub returns : goal.returns
returns c =
    let l = c.loop in
    let small : l.rest < 128 = elim c.loop-test.branch [ else-loop-test w ↦ (let k : 9 - l.counter ≡ 0 = omega arith in let p : l.rest < 2 * 128 ^ 0 = rw k at l.invariant.fits in omega arith) | then-loop-test+then-rest-lt128 w ↦ omega arith ] in
    rw c.in_ok-push-2.ensures.items (writes_last l.out.items _ l.counter l.rest small l.invariant.spelled)
