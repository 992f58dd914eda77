use Rattle.std.proofs.Common.{ap, rules, subst, take}
use Rattle.std.proofs.lemmas.List.{take_all}
use Rattle.mx_rows.specs.Checks.{AreDistinct, keys_of}
use Rattle.mx_rows.specs.Found.{IsMet}
use Rattle.mx_rows.proofs.DoubleLemmas.{first_in_file, next_keys}
use Rattle.mx_rows.proofs.doubles.double_in_file.Goals as goal

pub loop-row-preserved : goal.loop-row-preserved
loop-row-preserved c =
    let before = keys_of (take c.loop-row.row-index c.args.rows.now) in
    let new : IsMet c.meet.new.met before c.row-item.result = rw c.in_default.is at (c.in_ok-key.ensures before c.loop-row.invariant.met) in
    let next = next_keys c.args.rows.now c.loop-row.row-index c.row-item.result c.meet.new.met c.loop-row-test.true c.row-item.is c.loop-row.invariant.distinct new in
    record { distinct = next.0; met = next.1 }

pub returns-in-Some : goal.returns-in-Some
returns-in-Some c =
    let before = keys_of (take c.loop-row.row-index c.args.rows.now) in
    first_in_file c.args.rows.now c.loop-row.row-index c.row-item.result c.in-Some.key c.loop-row-test.true c.row-item.is c.loop-row.invariant.distinct
    (rw c.in-Some.is at (c.in_ok-key.ensures before c.loop-row.invariant.met))

pub returns : goal.returns
returns c = subst AreDistinct (ap keys_of (take_all c.loop-row.row-index c.args.rows.now (search rules))) c.loop-row.invariant.distinct
