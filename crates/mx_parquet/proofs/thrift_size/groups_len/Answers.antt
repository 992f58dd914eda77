use Rattle.std.proofs.Common.{◌-◌, arith}
use Rattle.mx_parquet.proofs.Numbers.{groups_step, groups_small}
use Rattle.mx_parquet.proofs.thrift_size.groups_len.Goals as goal

pub loop-rest-preserved : goal.loop-rest-preserved
loop-rest-preserved c =
    let l = c.loop-rest in
    let next = groups_step l.len l.rest _ l.invariant.some c.loop-rest-test.true l.invariant.fits l.invariant.counted in
    record { some = omega arith; few = omega (arith, next.0); counted = omega (arith, next.1); fits = next.2 }

pub returns-clause-value : goal.returns-clause-value
returns-clause-value c =
    let l = c.loop-rest in
    omega (arith, l.invariant.counted, l.invariant.some, groups_small (10 - l.len) l.rest c.loop-rest-test.false)
