use Rattle.std.proofs.Common.{◌≡◌, ◌∙◌, arith, length, to_z, of_z}
use Rattle.std.specs.Int.RustNames.{FitsSigned}
use Rattle.std.proofs.Math.Facts.{to_z-of_z}
use Rattle.std.proofs.lemmas.Int.{ints}
use Rattle.std.specs.Int.{w16}
use Rattle.std.proofs.lemmas.Result.{err_from_is_err_and}
use Rattle.mx_thrift.specs.Decoding.{in_turn, both, struct_in, value_in}
use Rattle.mx_thrift.proofs.Turns.{goes_on, ends, is_done, struct_goes_on, struct_ends, field_fails, fields_run_out, value_leaf, value_over}
use Rattle.mx_thrift.proofs.reading.+value.Goals as goal

pub value_of-returns-then-depth-eq0 : goal.value_of-returns-then-depth-eq0
value_of-returns-then-depth-eq0 t c = let e = value_leaf c.args.depth c.if-depth-eq0.true in rw e c.leaf_of.ensures

pub value_of-returns-else-depth-eq0 : goal.value_of-returns-else-depth-eq0
value_of-returns-else-depth-eq0 t c = let e = value_over c.args.depth c.if-depth-eq0.false in rw e c.over_of.ensures

pub items_of-returns-in_err-item : goal.items_of-returns-in_err-item
items_of-returns-in_err-item t c =
    let p = err_from_is_err_and c.from_residual.result c.from_residual.ensures.1 in
    let read = value_in c.args.inner c.args.kind in
    rw (p.1, p.2) (ends c.in_err-item.field-0.0 read c.loop.items c.args.count c.loop.counter c.loop.rest.now (in_turn read c.args.count c.args.bytes.now) c.loop-test.true c.in_err-item.ensures c.loop.invariant)

pub items_of-loop-preserved : goal.items_of-loop-preserved
items_of-loop-preserved t c =
    let read = value_in c.args.inner c.args.kind in
    rw c.in_ok-push.ensures.ok (goes_on read c.loop.items c.args.count c.loop.counter c.loop.rest.now c.in_ok-item.item c.in_ok-item.behind.now (in_turn read c.args.count c.args.bytes.now) c.loop-test.true c.in_ok-item.ensures c.loop.invariant)

pub items_of-returns : goal.items_of-returns
items_of-returns t c =
    let read = value_in c.args.inner c.args.kind in
    is_done read c.loop.items c.args.count c.loop.counter c.loop.rest.now (in_turn read c.args.count c.args.bytes.now) c.loop-test.false c.loop.invariant

pub pairs_of-returns-in_err-pair : goal.pairs_of-returns-in_err-pair
pairs_of-returns-in_err-pair t c =
    let p = err_from_is_err_and c.from_residual.result c.from_residual.ensures.1 in
    let read = both (value_in c.args.inner c.args.kinds.0) (value_in c.args.inner c.args.kinds.1) in
    rw (p.1, p.2) (ends c.in_err-pair.field-0.0 read c.loop.pairs c.args.count c.loop.counter c.loop.rest.now (in_turn read c.args.count c.args.bytes.now) c.loop-test.true c.in_err-pair.ensures c.loop.invariant)

pub pairs_of-loop-preserved : goal.pairs_of-loop-preserved
pairs_of-loop-preserved t c =
    let read = both (value_in c.args.inner c.args.kinds.0) (value_in c.args.inner c.args.kinds.1) in
    rw c.in_ok-push.ensures.ok (goes_on read c.loop.pairs c.args.count c.loop.counter c.loop.rest.now c.in_ok-pair.pair c.in_ok-pair.behind.now (in_turn read c.args.count c.args.bytes.now) c.loop-test.true c.in_ok-pair.ensures c.loop.invariant)

pub pairs_of-returns : goal.pairs_of-returns
pairs_of-returns t c =
    let read = both (value_in c.args.inner c.args.kinds.0) (value_in c.args.inner c.args.kinds.1) in
    is_done read c.loop.pairs c.args.count c.loop.counter c.loop.rest.now (in_turn read c.args.count c.args.bytes.now) c.loop-test.false c.loop.invariant

pub struct_of-returns-in_err-next : goal.struct_of-returns-in_err-next
struct_of-returns-in_err-next t c =
    let p = err_from_is_err_and c.from_residual.result c.from_residual.ensures.1 in
    let inner = value_in c.args.inner in
    rw (p.1, p.2) (field_fails inner c.loop.fields (length c.args.bytes.now) c.loop.counter (to_z w16 c.loop.last-bits) c.loop.rest.now (struct_in inner c.args.bytes.now) c.loop.invariant c.in_err-next.field-0.0 c.loop-test.true c.in_err-next.ensures)

pub struct_of-returns-in_default : goal.struct_of-returns-in_default
struct_of-returns-in_default t c =
    let inner = value_in c.args.inner in
    struct_ends inner c.loop.fields (length c.args.bytes.now) c.loop.counter (to_z w16 c.loop.last-bits) c.loop.rest.now (struct_in inner c.args.bytes.now) c.loop.invariant c.in_ok-next.next c.in_ok-next.behind.now c.in_default.is c.loop-test.true c.in_ok-next.ensures

pub struct_of-loop-preserved : goal.struct_of-loop-preserved
struct_of-loop-preserved t c =
    let inner = value_in c.args.inner in
    let one = struct_goes_on inner c.loop.fields (length c.args.bytes.now) c.loop.counter (to_z w16 c.loop.last-bits) c.loop.rest.now (struct_in inner c.args.bytes.now) c.loop.invariant c.in_ok-next.next c.in-Some.field c.in_ok-next.behind.now c.in-Some.is c.loop-test.true c.in_ok-next.ensures in
    let fits : FitsSigned w16 c.id_of-last.result = omega (arith, ints, c.id_of-last.type_inv) in
    let is : to_z w16 (of_z w16 c.id_of-last.result) ≡ c.in-Some.field.id = to_z-of_z {w = w16} {z = c.id_of-last.result} fits ∙ c.id_of-last.ensures in
    rw (c.in_ok-push.ensures.ok, is) one

pub struct_of-returns : goal.struct_of-returns
struct_of-returns t c =
    let inner = value_in c.args.inner in
    rw c.broken.ensures (fields_run_out inner c.loop.fields (length c.args.bytes.now) c.loop.counter (to_z w16 c.loop.last-bits) c.loop.rest.now (struct_in inner c.args.bytes.now) c.loop.invariant c.loop-test.false)
