use Rattle.std.proofs.Common.{◌≡◌, ◌≢◌, ℕ, List, false, nat_eq, sym, ap, ◌∙◌, ◌++◌, arith}
use Rattle.mx_base.specs.Digits.{instant_text}
use Rattle.std.specs.Prelude.{codes}
use Rattle.std.specs.Cmp.Lexicographic.{same_text}
use lib.Pointwise.{pointwise}
use Rattle.mx_base.proofs.ObjectReadings.{IsShardName, base_unparted, log_unparted, base_unsharded, log_unsharded, base_undated, log_undated, base_dated, log_dated, base_found, log_found, base_exact, log_exact}
use Rattle.mx_base.proofs.ObjectSplits.{base_no_log}
use Rattle.mx_base.proofs.object_name.shard_object.Goals as goal

other_text : (ending : List ℕ) → false ≡ pointwise nat_eq ending (codes ".log") → ending ≢ codes ".log"
other_text ending is same = absurd (cc (is ∙ ap (λ (l : List ℕ). pointwise nat_eq l (codes ".log")) same))

pub returns-in_err-part-clause-base : goal.returns-in_err-part-clause-base
returns-in_err-part-clause-base c part shard upto kind kept same = absurd (base_unparted c.args.name.now c.in_err-part.ensures part shard upto kind same)

pub returns-in_err-part-clause-log : goal.returns-in_err-part-clause-log
returns-in_err-part-clause-log c part shard at kept same = absurd (log_unparted c.args.name.now c.in_err-part.ensures part shard at same)

pub returns-in_err-shard-clause-base : goal.returns-in_err-shard-clause-base
returns-in_err-shard-clause-base c part shard upto kind kept same =
    absurd (base_unsharded c.in_ok-part.part c.args.name.now c.in_ok-part.name.now c.in_ok-part.ensures c.in_err-shard.ensures part shard upto kind same)

pub returns-in_err-shard-clause-log : goal.returns-in_err-shard-clause-log
returns-in_err-shard-clause-log c part shard at kept same =
    absurd (log_unsharded c.in_ok-part.part c.args.name.now c.in_ok-part.name.now c.in_ok-part.ensures c.in_err-shard.ensures part shard at same)

pub returns-in_err-number-clause-base : goal.returns-in_err-number-clause-base
returns-in_err-number-clause-base c part shard upto kind kept same =
    let sharded = c.in_ok-shard.ensures in
    let is : IsShardName c.in_ok-part.part c.in_ok-shard.shard c.args.name.now c.in_ok-part.name.now c.in_ok-shard.name.now = record { parted = c.in_ok-part.ensures; small = sharded.0; sharded = sharded.1 } in
    absurd (base_undated c.in_ok-part.part c.in_ok-shard.shard c.args.name.now c.in_ok-part.name.now c.in_ok-shard.name.now is c.in_err-number.ensures part shard upto kind kept same)

pub returns-in_err-number-clause-log : goal.returns-in_err-number-clause-log
returns-in_err-number-clause-log c part shard at kept same =
    let sharded = c.in_ok-shard.ensures in
    let is : IsShardName c.in_ok-part.part c.in_ok-shard.shard c.args.name.now c.in_ok-part.name.now c.in_ok-shard.name.now = record { parted = c.in_ok-part.ensures; small = sharded.0; sharded = sharded.1 } in
    absurd (log_undated c.in_ok-part.part c.in_ok-shard.shard c.args.name.now c.in_ok-part.name.now c.in_ok-shard.name.now is c.in_err-number.ensures part shard at kept same)

pub returns-then-eq-clause-found : goal.returns-then-eq-clause-found
returns-then-eq-clause-found c =
    let sharded = c.in_ok-shard.ensures in
    let dated = c.in_ok-number.ensures in
    log_found c.log_name.result c.in_ok-part.part c.in_ok-shard.shard c.in_ok-number.number c.args.name.now c.in_ok-part.name.now c.in_ok-shard.name.now c.in_ok-number.ending.now c.log_name.ensures (record { parted = c.in_ok-part.ensures; small = sharded.0; sharded = sharded.1 }) dated.1
    (same_text c.in_ok-number.ending.now (codes ".log") c.if-eq.ensures)

pub returns-then-eq-clause-base : goal.returns-then-eq-clause-base
returns-then-eq-clause-base c part shard upto kind kept same =
    let sharded = c.in_ok-shard.ensures in
    let dated = c.in_ok-number.ensures in
    let here = base_dated c.in_ok-part.part c.in_ok-shard.shard c.in_ok-number.number c.args.name.now c.in_ok-part.name.now c.in_ok-shard.name.now c.in_ok-number.ending.now (record { parted = c.in_ok-part.ensures; small = sharded.0; sharded = sharded.1 }) dated.0 dated.1 part shard upto kind kept same in
    absurd (base_no_log kind (sym here.3 ∙ same_text c.in_ok-number.ending.now (codes ".log") c.if-eq.ensures))

pub returns-then-eq-clause-log : goal.returns-then-eq-clause-log
returns-then-eq-clause-log c part shard at kept same =
    let sharded = c.in_ok-shard.ensures in
    let dated = c.in_ok-number.ensures in
    let here = log_dated c.in_ok-part.part c.in_ok-shard.shard c.in_ok-number.number c.args.name.now c.in_ok-part.name.now c.in_ok-shard.name.now c.in_ok-number.ending.now (record { parted = c.in_ok-part.ensures; small = sharded.0; sharded = sharded.1 }) dated.0 dated.1 part shard at kept same in
    log_exact c.log_name.result c.in_ok-part.part part c.in_ok-shard.shard shard c.in_ok-number.number at c.log_name.ensures kept here.0 here.1 here.2

pub returns-in_err-kind-clause-base : goal.returns-in_err-kind-clause-base
returns-in_err-kind-clause-base c part shard upto kind kept same =
    let sharded = c.in_ok-shard.ensures in
    let dated = c.in_ok-number.ensures in
    let here = base_dated c.in_ok-part.part c.in_ok-shard.shard c.in_ok-number.number c.args.name.now c.in_ok-part.name.now c.in_ok-shard.name.now c.in_ok-number.ending.now (record { parted = c.in_ok-part.ensures; small = sharded.0; sharded = sharded.1 }) dated.0 dated.1 part shard upto kind kept same in
    absurd (cc (c.in_err-kind.ensures.only kind here.3))

pub returns-in_err-kind-clause-log : goal.returns-in_err-kind-clause-log
returns-in_err-kind-clause-log c part shard at kept same =
    let sharded = c.in_ok-shard.ensures in
    let dated = c.in_ok-number.ensures in
    let here = log_dated c.in_ok-part.part c.in_ok-shard.shard c.in_ok-number.number c.args.name.now c.in_ok-part.name.now c.in_ok-shard.name.now c.in_ok-number.ending.now (record { parted = c.in_ok-part.ensures; small = sharded.0; sharded = sharded.1 }) dated.0 dated.1 part shard at kept same in
    absurd (other_text c.in_ok-number.ending.now c.if-eq.ensures here.3)

pub returns-clause-found : goal.returns-clause-found
returns-clause-found c =
    let sharded = c.in_ok-shard.ensures in
    let dated = c.in_ok-number.ensures in
    base_found c.in_ok-part.part c.in_ok-shard.shard c.of_number.result c.in_ok-kind.kind c.args.name.now c.in_ok-part.name.now c.in_ok-shard.name.now c.in_ok-number.ending.now (record { parted = c.in_ok-part.ensures; small = sharded.0; sharded = sharded.1 })
    (omega (arith, c.of_number.ensures, dated.0))
    (dated.1 ∙ ap (λ (n : ℕ). instant_text n ++ c.in_ok-number.ending.now) (sym c.of_number.ensures)) c.in_ok-kind.ensures.found

pub returns-clause-base : goal.returns-clause-base
returns-clause-base c part shard upto kind kept same =
    let sharded = c.in_ok-shard.ensures in
    let dated = c.in_ok-number.ensures in
    let here = base_dated c.in_ok-part.part c.in_ok-shard.shard c.in_ok-number.number c.args.name.now c.in_ok-part.name.now c.in_ok-shard.name.now c.in_ok-number.ending.now (record { parted = c.in_ok-part.ensures; small = sharded.0; sharded = sharded.1 }) dated.0 dated.1 part shard upto kind kept same in
    base_exact c.in_ok-part.part part c.in_ok-shard.shard shard c.of_number.result upto c.in_ok-kind.kind kind here.0 here.1 (c.of_number.ensures ∙ here.2) (c.in_ok-kind.ensures.only kind here.3)

pub returns-clause-log : goal.returns-clause-log
returns-clause-log c part shard at kept same =
    let sharded = c.in_ok-shard.ensures in
    let dated = c.in_ok-number.ensures in
    let here = log_dated c.in_ok-part.part c.in_ok-shard.shard c.in_ok-number.number c.args.name.now c.in_ok-part.name.now c.in_ok-shard.name.now c.in_ok-number.ending.now (record { parted = c.in_ok-part.ensures; small = sharded.0; sharded = sharded.1 }) dated.0 dated.1 part shard at kept same in
    absurd (other_text c.in_ok-number.ending.now c.if-eq.ensures here.3)
