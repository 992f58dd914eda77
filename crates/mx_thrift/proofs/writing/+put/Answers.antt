use Rattle.std.proofs.Common.{◌≡◌, ◌+◌, ◌*◌, ◌-ℤ◌, ◌∙◌, arith, to_z, of_z}
use Rattle.std.proofs.Math.Facts.{to_z-of_z}
use Rattle.std.proofs.lemmas.Int.{ints}
use Rattle.std.specs.Int.{w16}
use Rattle.std.specs.Int.RustNames.{FitsSigned}
use Rattle.mx_thrift.specs.Encoding.{small_gap, written_value}
use Rattle.mx_thrift.proofs.Forms.{form-Int, form-Long, form-Bytes, form-List, form-Struct, form_other}
use Rattle.mx_thrift.proofs.Sent.{sent, sent_list, sent_nothing, one_item, no_item, one_field, no_field}
use Rattle.mx_thrift.proofs.writing.+put.Goals as goal

pub put_value-returns-in-Int : goal.put_value-returns-in-Int
put_value-returns-in-Int t c = sent c.put_int.result c.args.value.now _ _ c.args.out.now.items c.put_int.new.out.items c.in-Int.is (form-Int _) c.put_int.ensures

pub put_value-returns-in-Long : goal.put_value-returns-in-Long
put_value-returns-in-Long t c = sent c.put_number.result c.args.value.now _ _ c.args.out.now.items c.put_number.new.out.items c.in-Long.is (form-Long _) c.put_number.ensures

pub put_value-returns-in-Bytes : goal.put_value-returns-in-Bytes
put_value-returns-in-Bytes t c = sent c.put_text.result c.args.value.now _ _ c.args.out.now.items c.put_text.new.out.items c.in-Bytes.is (form-Bytes _) (rw c.as_slice.ensures at c.put_text.ensures)

pub put_value-returns-in_ok-put_list_head-in-List : goal.put_value-returns-in_ok-put_list_head-in-List
put_value-returns-in_ok-put_list_head-in-List t c =
    let items = c.in-List.items in
    sent c.put_items.result c.args.value.now _ _ c.args.out.now.items c.put_items.new.out.items c.in-List.is (form-List _ _)
    (sent_list c.put_items.result items c.as_slice-in-List.result.now c.in-List.kind c.len.result c.args.out.now.items c.put_list_head.new.out.items c.put_items.new.out.items c.len.ensures c.as_slice-in-List.ensures c.in_ok-put_list_head-in-List.ensures c.put_items.ensures)

pub put_value-returns-in-Struct : goal.put_value-returns-in-Struct
put_value-returns-in-Struct t c = sent c.put_struct.result c.args.value.now _ _ c.args.out.now.items c.put_struct.new.out.items c.in-Struct.is (form-Struct _) (rw c.as_slice-in-Struct.ensures at c.put_struct.ensures)

pub put_value-returns-in_default : goal.put_value-returns-in_default
put_value-returns-in_default t c = let d = c.in_default in sent_nothing c.args.value.now c.args.out.now.items (form_other c.args.value.now d.not-Int d.not-Long d.not-Bytes d.not-List d.not-Struct)

pub put_items-loop-item-preserved : goal.put_items-loop-item-preserved
put_items-loop-item-preserved t c =
    let l = c.loop-item in
    one_item c.args.items.now l.item-index c.item-item.result l.out.items c.put_value.new.out.items _ c.loop-item-test.true c.item-item.is c.in_ok-put_value.ensures l.invariant

pub put_items-returns : goal.put_items-returns
put_items-returns t c = let l = c.loop-item in no_item c.args.items.now l.item-index l.out.items _ c.loop-item-test.false l.invariant

pub put_struct-loop-field-preserved : goal.put_struct-loop-field-preserved
put_struct-loop-field-preserved t c =
    let l = c.loop-field in
    let f = c.field-item.result in
    let fits : FitsSigned w16 c.id_of-id.result = omega (arith, ints, c.id_of-id.type_inv) in
    let id : to_z w16 (of_z w16 c.id_of-id.result) ≡ f.id = to_z-of_z {w = w16} {z = c.id_of-id.result} fits ∙ c.id_of-id.ensures in
    let byte : c.gap.result * 16 + c.code_of.result ≡ 16 * small_gap (f.id -ℤ to_z w16 l.last-bits) + (written_value f.value).0 = rw (← id) (omega (arith, c.gap.ensures.value, c.code_of.ensures.value)) in
    rw id (one_field c.args.fields.now l.field-index f (to_z w16 l.last-bits) (c.gap.result * 16 + c.code_of.result) l.out.items c.push.new.self.items c.put_value.new.out.items _ c.loop-field-test.true c.field-item.is byte c.in_ok-push.ensures.items c.in_ok-put_value.ensures l.invariant)

pub put_struct-returns : goal.put_struct-returns
put_struct-returns t c = let l = c.loop-field in no_field c.args.fields.now l.field-index (to_z w16 l.last-bits) l.out.items c.push-2.new.self.items _ c.loop-field-test.false c.in_ok-push-2.ensures.items l.invariant
