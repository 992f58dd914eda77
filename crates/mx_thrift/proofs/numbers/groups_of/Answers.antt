use Rattle.std.proofs.Common.{◌≡◌, ◌^◌, ◌*◌, ◌+◌, ◌-◌, ℕ, take, drop, length, add-one, refl, ap, arith, sym, ◌∙◌, length-drop}
use Rattle.std.proofs.Math.Seq.{take-length}
use Rattle.std.proofs.Math.Nat.{pow-suc}
use Rattle.mx_thrift.proofs.Groups.{nothing_so_far, cut, wide, ends, goes_on, fits}
use Rattle.mx_thrift.proofs.numbers.groups_of.Goals as goal

pub loop-index-init : goal.loop-index-init
loop-index-init c = record { count = omega arith; scale_is = refl; below = omega arith; read = nothing_so_far _ }

pub overflow_mul-number : goal.overflow_mul-number
overflow_mul-number c =
    let l = c.loop-index in
    let f = fits l.number l.scale l.index c.from.result l.invariant.count l.invariant.scale_is l.invariant.below (omega arith) in
    omega (arith, f)

pub overflow_add-number : goal.overflow_add-number
overflow_add-number c =
    let l = c.loop-index in
    let f = fits l.number l.scale l.index c.from.result l.invariant.count l.invariant.scale_is l.invariant.below (omega arith) in
    omega (arith, f)

pub returns-then-byte-lt128 : goal.returns-then-byte-lt128
returns-then-byte-lt128 c =
    let l = c.loop-index in
    let e = ends (length c.args.bytes.now) l.number l.scale l.index c.from.result c.args.bytes.now _ l.invariant.count c.loop-index-test.true c.if-byte-lt128.true c.from.ensures l.invariant.read in
    let whole : take (length c.args.bytes.now - (l.index + 1)) (drop (l.index + 1) c.args.bytes.now) ≡ drop (l.index + 1) c.args.bytes.now =
    ap (λ (n : ℕ). take n (drop (l.index + 1) c.args.bytes.now)) (sym (length-drop (l.index + 1) c.args.bytes.now)) ∙ take-length (drop (l.index + 1) c.args.bytes.now) in
    rw whole e

pub returns-then-index-eq-LAST_PLACE : goal.returns-then-index-eq-LAST_PLACE
returns-then-index-eq-LAST_PLACE c =
    let l = c.loop-index in
    let w = wide (length c.args.bytes.now) l.number l.scale l.index c.args.bytes.now _ c.if-index-eq-LAST_PLACE.true c.loop-index-test.true c.if-byte-lt128.false l.invariant.read in
    rw c.broken.ensures w

pub overflow_mul-scale : goal.overflow_mul-scale
overflow_mul-scale c =
    let l = c.loop-index in
    let f = fits l.number l.scale l.index c.from.result l.invariant.count l.invariant.scale_is l.invariant.below (omega arith) in
    omega (arith, f)

pub loop-index-preserved : goal.loop-index-preserved
loop-index-preserved c =
    let l = c.loop-index in
    let f = fits l.number l.scale l.index c.from.result l.invariant.count l.invariant.scale_is l.invariant.below (omega arith) in
    let power : 128 ^ (l.index + 1) ≡ 128 ^ l.index * 128 = rw add-one (pow-suc 128 l.index) in
    record {
      count = omega arith;
      scale_is = omega arith;
      below = f.0;
      read = goes_on (length c.args.bytes.now) l.number l.scale l.index c.from.result c.args.bytes.now _ l.invariant.count c.loop-index-test.true c.if-byte-lt128.false c.from.ensures l.invariant.read;
    }

pub returns : goal.returns
returns c =
    let l = c.loop-index in
    let w = cut (length c.args.bytes.now) l.number l.scale l.index c.args.bytes.now _ l.invariant.count c.loop-index-test.false l.invariant.read in
    rw c.broken-2.ensures w
