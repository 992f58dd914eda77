use Rattle.std.proofs.Common.{◌≡◌, ◌∷◌, [], List, ℕ, pos, negsuc, ◌<◌, ◌^◌, refl, ap, inr, arith, length}
use Rattle.std.proofs.lemmas.Int.{ints}
use Rattle.std.specs.List.{AllByRecursion}
use Rattle.mx_thrift.specs.declared.value.Value.{Value}
use Rattle.mx_thrift.specs.declared.value.Value.TheVariants as values
use Rattle.mx_thrift.specs.declared.value.Field.{Field}
use Rattle.mx_thrift.specs.Encoding.{FieldsRise, IsWritableValue, IsWritable}
use Rattle.mx_thrift.proofs.Can.{can_int, can_long, can_bytes, can_list, can_struct, rise_by, one, three}
use Rattle.mx_thrift.proofs.writing_tests.footer.Goals as goal

rises : (inner : List Field) (f : Field) (structs : List Value) (text : List ℕ) → f ≡ record { id = pos 1; value = values.Int (pos 64) } → inner ≡ f ∷ [] → structs ≡ values.Struct inner ∷ [] → length text ≡ 2
    → IsWritable (record { id = pos 1; value = values.Long (negsuc 9223372036854775807) } ∷ record { id = pos 16; value = values.Bytes text } ∷ record { id = pos 17; value = values.List 12 structs } ∷ [])
rises inner f structs text pf pi ps len =
    let can = IsWritableValue 15 in
    let inside : FieldsRise (IsWritableValue 13) (pos 0) inner = rw pi (rise_by (IsWritableValue 13) (pos 0) (pos 1) 1 5 (values.Int (pos 64)) f [] pf (omega arith) (omega arith) (omega (arith, ints)) (omega (arith, ints)) (can_int 13 (pos 64) (omega (arith, ints))) tt) in
    let all : AllByRecursion (IsWritableValue 14 12) structs = rw ps (can_struct 13 inner inside, tt) in
    let few : length structs < 2 ^ 31 = omega (arith, ap length ps) in
    let w : Field = record { id = pos 1; value = values.Long (negsuc 9223372036854775807) } in
    let x : Field = record { id = pos 16; value = values.Bytes text } in
    let y : Field = record { id = pos 17; value = values.List 12 structs } in
    let c : FieldsRise can (pos 16) (y ∷ []) = rise_by can (pos 16) (pos 17) 1 9 (values.List 12 structs) y [] refl (omega arith) (omega arith) (omega (arith, ints)) (omega (arith, ints)) (can_list 14 12 structs (inr (inr (inr refl))) few all) tt in
    let b : FieldsRise can (pos 1) (x ∷ y ∷ []) = rise_by can (pos 1) (pos 16) 15 8 (values.Bytes text) x (y ∷ []) refl (omega arith) (omega arith) (omega (arith, ints)) (omega (arith, ints)) (can_bytes 15 text (omega (arith, len))) c in
    rise_by can (pos 0) (pos 1) 1 6 (values.Long (negsuc 9223372036854775807)) w (x ∷ y ∷ []) refl (omega arith) (omega arith) (omega (arith, ints)) (omega (arith, ints)) (can_long 15 (negsuc 9223372036854775807) (omega (arith, ints))) b

pub returns : goal.returns
returns c =
    let text = c.in_ok-from_slice.field-0 in
    let inner = one c.new-inner.result c.push.new.self c.int.result c.new-inner.ensures c.in_ok-push.ensures.ok in
    let structs = one c.new-structs.result c.push-2.new.self (values.Struct c.push.new.self) c.new-structs.ensures c.in_ok-push-2.ensures.ok in
    let w : Field = record { id = pos 1; value = values.Long (negsuc 9223372036854775807) } in
    let x : Field = record { id = pos 16; value = values.Bytes text } in
    let y : Field = record { id = pos 17; value = values.List 12 c.push-2.new.self } in
    rw (three c.new-fields.result c.push-3.new.self c.push-4.new.self c.push-5.new.self w x y c.new-fields.ensures c.in_ok-push-3.ensures.ok c.in_ok-push-4.ensures.ok c.in_ok-push-5.ensures.ok)
    (rises c.push.new.self c.int.result c.push-2.new.self text c.int.ensures inner structs (ap length c.in_ok-from_slice.ensures))
