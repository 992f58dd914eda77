use Rattle.std.proofs.Common.{◌≡◌, ◌∷◌, [], List, pos, refl, arith}
use Rattle.std.proofs.lemmas.Int.{ints}
use Rattle.mx_thrift.specs.declared.value.Value.TheVariants as values
use Rattle.mx_thrift.specs.declared.value.Field.{Field}
use Rattle.mx_thrift.specs.Encoding.{FieldsRise, IsWritableValue, IsWritable}
use Rattle.mx_thrift.proofs.Can.{can_int, can_struct, rise_by, four}
use Rattle.mx_thrift.proofs.writing_tests.page_header.Goals as goal

inner_rises : (w x y z : Field) → w ≡ record { id = pos 1; value = values.Int (pos 1) } → x ≡ record { id = pos 2; value = values.Int (pos 0) } → y ≡ record { id = pos 3; value = values.Int (pos 3) } → z ≡ record { id = pos 4; value = values.Int (pos 3) }
    → FieldsRise (IsWritableValue 14) (pos 0) (w ∷ x ∷ y ∷ z ∷ [])
inner_rises w x y z pw px py pz =
    let can = IsWritableValue 14 in
    let d : FieldsRise can (pos 3) (z ∷ []) = rise_by can (pos 3) (pos 4) 1 5 (values.Int (pos 3)) z [] pz (omega arith) (omega arith) (omega (arith, ints)) (omega (arith, ints)) (can_int 14 (pos 3) (omega (arith, ints))) tt in
    let c : FieldsRise can (pos 2) (y ∷ z ∷ []) = rise_by can (pos 2) (pos 3) 1 5 (values.Int (pos 3)) y (z ∷ []) py (omega arith) (omega arith) (omega (arith, ints)) (omega (arith, ints)) (can_int 14 (pos 3) (omega (arith, ints))) d in
    let b : FieldsRise can (pos 1) (x ∷ y ∷ z ∷ []) = rise_by can (pos 1) (pos 2) 1 5 (values.Int (pos 0)) x (y ∷ z ∷ []) px (omega arith) (omega arith) (omega (arith, ints)) (omega (arith, ints)) (can_int 14 (pos 0) (omega (arith, ints))) c in
    rise_by can (pos 0) (pos 1) 1 5 (values.Int (pos 1)) w (x ∷ y ∷ z ∷ []) pw (omega arith) (omega arith) (omega (arith, ints)) (omega (arith, ints)) (can_int 14 (pos 1) (omega (arith, ints))) b

outer_rises : (w x y : Field) (inner : List Field) → w ≡ record { id = pos 1; value = values.Int (pos 0) } → x ≡ record { id = pos 2; value = values.Int (pos 8) } → y ≡ record { id = pos 3; value = values.Int (pos 8) }
    → FieldsRise (IsWritableValue 14) (pos 0) inner → IsWritable (w ∷ x ∷ y ∷ record { id = pos 5; value = values.Struct inner } ∷ [])
outer_rises w x y inner pw px py rise =
    let can = IsWritableValue 15 in
    let z : Field = record { id = pos 5; value = values.Struct inner } in
    let d : FieldsRise can (pos 3) (z ∷ []) = rise_by can (pos 3) (pos 5) 2 12 (values.Struct inner) z [] refl (omega arith) (omega arith) (omega (arith, ints)) (omega (arith, ints)) (can_struct 14 inner rise) tt in
    let c : FieldsRise can (pos 2) (y ∷ z ∷ []) = rise_by can (pos 2) (pos 3) 1 5 (values.Int (pos 8)) y (z ∷ []) py (omega arith) (omega arith) (omega (arith, ints)) (omega (arith, ints)) (can_int 15 (pos 8) (omega (arith, ints))) d in
    let b : FieldsRise can (pos 1) (x ∷ y ∷ z ∷ []) = rise_by can (pos 1) (pos 2) 1 5 (values.Int (pos 8)) x (y ∷ z ∷ []) px (omega arith) (omega arith) (omega (arith, ints)) (omega (arith, ints)) (can_int 15 (pos 8) (omega (arith, ints))) c in
    rise_by can (pos 0) (pos 1) 1 5 (values.Int (pos 0)) w (x ∷ y ∷ z ∷ []) pw (omega arith) (omega arith) (omega (arith, ints)) (omega (arith, ints)) (can_int 15 (pos 0) (omega (arith, ints))) b

pub returns : goal.returns
returns c =
    let inner = four c.new-values.result c.push.new.self c.push-2.new.self c.push-3.new.self c.push-4.new.self c.int.result c.int-2.result c.int-3.result c.int-4.result
    c.new-values.ensures c.in_ok-push.ensures.ok c.in_ok-push-2.ensures.ok c.in_ok-push-3.ensures.ok c.in_ok-push-4.ensures.ok in
    let rise : FieldsRise (IsWritableValue 14) (pos 0) c.push-4.new.self = rw inner (inner_rises c.int.result c.int-2.result c.int-3.result c.int-4.result c.int.ensures c.int-2.ensures c.int-3.ensures c.int-4.ensures) in
    let last : Field = record { id = pos 5; value = values.Struct c.push-4.new.self } in
    rw (four c.new-fields.result c.push-5.new.self c.push-6.new.self c.push-7.new.self c.push-8.new.self c.int-5.result c.int-6.result c.int-7.result last c.new-fields.ensures c.in_ok-push-5.ensures.ok c.in_ok-push-6.ensures.ok c.in_ok-push-7.ensures.ok c.in_ok-push-8.ensures.ok)
    (outer_rises c.int-5.result c.int-6.result c.int-7.result c.push-4.new.self c.int-5.ensures c.int-6.ensures c.int-7.ensures rise)
