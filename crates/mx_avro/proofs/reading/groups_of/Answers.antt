use Rattle.std.proofs.Common.{◌≡◌, ◌+◌, ◌^◌, add-one, get_or, false, refl, ◌*◌, arith, sym, ◌∙◌}
use Rattle.std.proofs.Math.Nat.{pow-suc}
use Rattle.mx_avro.specs.Decoding.{groups_at, widens}
use Rattle.mx_avro.proofs.Loop.{nothing_so_far, wide_at, last_at, more_at, short_at, last_fits, more_fits}
use Rattle.mx_avro.proofs.reading.groups_of.Goals as goal

pub loop-index-init : goal.loop-index-init
loop-index-init c = record { count = omega arith; scale_is = refl; below = omega arith; read = nothing_so_far c.args.at (groups_at c.args.at 9 c.args.rest.now) }

pub returns-then-is_wide-clause-exact : goal.returns-then-is_wide-clause-exact
returns-then-is_wide-clause-exact c =
    let l = c.loop-index in
    wide_at c.args.at l.number l.scale l.index c.args.rest.now _ l.invariant.count c.loop-index-test.true (sym c.is_wide.ensures ∙ c.if-is_wide.true) l.invariant.read

pub overflow_mul-result : goal.overflow_mul-result
overflow_mul-result c =
    let l = c.loop-index in
    let w : widens l.index (get_or c.args.rest.now l.index 0) ≡ false = sym c.is_wide.ensures ∙ c.if-is_wide.false in
    let e = last_fits l.number l.scale l.index (get_or c.args.rest.now l.index 0) l.invariant.count l.invariant.scale_is l.invariant.below w c.if-byte-lt128.true in
    rw c.from.ensures (omega arith)

pub overflow_add-result : goal.overflow_add-result
overflow_add-result c =
    let l = c.loop-index in
    let w : widens l.index (get_or c.args.rest.now l.index 0) ≡ false = sym c.is_wide.ensures ∙ c.if-is_wide.false in
    let e = last_fits l.number l.scale l.index (get_or c.args.rest.now l.index 0) l.invariant.count l.invariant.scale_is l.invariant.below w c.if-byte-lt128.true in
    rw c.from.ensures (omega arith)

pub returns-then-byte-lt128-clause-exact : goal.returns-then-byte-lt128-clause-exact
returns-then-byte-lt128-clause-exact c =
    let l = c.loop-index in
    last_at c.args.at l.number l.scale l.index c.from.result c.args.rest.now _ l.invariant.count c.loop-index-test.true c.from.ensures (sym c.is_wide.ensures ∙ c.if-is_wide.false) c.if-byte-lt128.true l.invariant.read

pub overflow_mul-number : goal.overflow_mul-number
overflow_mul-number c =
    let l = c.loop-index in
    let more = more_at c.args.at l.number l.scale l.index c.from-in-loop-index.result c.args.rest.now _ l.invariant.count c.loop-index-test.true c.from-in-loop-index.ensures (sym c.is_wide.ensures ∙ c.if-is_wide.false) c.if-byte-lt128.false l.invariant.read in
    let fits = more_fits l.number l.scale l.index c.from-in-loop-index.result more.0 l.invariant.scale_is l.invariant.below (omega (arith, c.type_inv.rest l.index)) in
    omega (arith, fits)

pub overflow_add-number : goal.overflow_add-number
overflow_add-number c =
    let l = c.loop-index in
    let more = more_at c.args.at l.number l.scale l.index c.from-in-loop-index.result c.args.rest.now _ l.invariant.count c.loop-index-test.true c.from-in-loop-index.ensures (sym c.is_wide.ensures ∙ c.if-is_wide.false) c.if-byte-lt128.false l.invariant.read in
    let fits = more_fits l.number l.scale l.index c.from-in-loop-index.result more.0 l.invariant.scale_is l.invariant.below (omega (arith, c.type_inv.rest l.index)) in
    omega (arith, fits)

pub loop-index-preserved : goal.loop-index-preserved
loop-index-preserved c =
    let l = c.loop-index in
    let more = more_at c.args.at l.number l.scale l.index c.from-in-loop-index.result c.args.rest.now _ l.invariant.count c.loop-index-test.true c.from-in-loop-index.ensures (sym c.is_wide.ensures ∙ c.if-is_wide.false) c.if-byte-lt128.false l.invariant.read in
    let fits = more_fits l.number l.scale l.index c.from-in-loop-index.result more.0 l.invariant.scale_is l.invariant.below (omega (arith, c.type_inv.rest l.index)) in
    let power : 128 ^ (l.index + 1) ≡ 128 ^ l.index * 128 = rw add-one (pow-suc 128 l.index) in
    record { count = omega (arith, more.0); scale_is = omega arith; below = fits.0; read = more.1 }

pub returns-clause-exact : goal.returns-clause-exact
returns-clause-exact c =
    let l = c.loop-index in
    short_at c.args.at l.number l.scale l.index c.args.rest.now _ c.loop-index-test.false l.invariant.read
