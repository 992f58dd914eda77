use Rattle.std.proofs.Common.{length, ap, arith, length-append, refl, Bool}
use Rattle.mx_levels.proofs.PushLemmas.{pushed_bit, no_bits}
use Rattle.mx_levels.proofs.reading.push_group.Goals as goal

pub loop-preserved : goal.loop-preserved
loop-preserved c =
    let l = c.loop in
    record {
      pushed = rw c.in_ok-push.ensures.items (pushed_bit l.counter l.rest c.args.count l.levels.items _ _ c.loop-test.true refl l.invariant.pushed);
      within = omega (arith, length-append {A = Bool}, ap length c.in_ok-push.ensures.items);
    }

pub returns : goal.returns
returns c = let l = c.loop in no_bits l.counter l.rest c.args.count l.levels.items _ c.loop-test.false l.invariant.within l.invariant.pushed
