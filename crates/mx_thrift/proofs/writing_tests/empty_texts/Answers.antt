use Rattle.std.proofs.Common.{◌∷◌, [], pos, refl, inl, inr, arith, length-append}
use Rattle.std.proofs.lemmas.Int.{ints}
use Rattle.mx_thrift.specs.declared.value.Value.TheVariants as values
use Rattle.mx_thrift.specs.declared.value.Field.{Field}
use Rattle.mx_thrift.specs.Encoding.{IsWritableValue}
use Rattle.mx_thrift.proofs.Can.{can_bytes, can_list, all_push, rise_by, one}
use Rattle.mx_thrift.proofs.writing_tests.empty_texts.Goals as goal

pub loop-init : goal.loop-init
loop-init c = rw c.new-items.ensures record { count = refl; all = tt }

pub loop-preserved : goal.loop-preserved
loop-preserved c =
    let l = c.loop in
    rw (c.in_ok-push.ensures.ok, c.new.ensures) record {
      count = omega (arith, l.invariant.count, length-append l.items (values.Bytes [] ∷ []));
      all = all_push (IsWritableValue 14 8) l.items (values.Bytes []) l.invariant.all (can_bytes 14 [] (omega arith));
    }

pub returns : goal.returns
returns c =
    let l = c.loop in
    let list = can_list 14 8 l.items (inr (inr (inl refl))) (omega (arith, l.invariant.count)) l.invariant.all in
    let field : Field = record { id = pos 1; value = values.List 8 l.items } in
    rw (one c.new-fields.result c.push-2.new.self field c.new-fields.ensures c.in_ok-push-2.ensures.ok)
    (rise_by (IsWritableValue 15) (pos 0) (pos 1) 1 9 (values.List 8 l.items) field [] refl (omega arith) (omega arith) (omega (arith, ints)) (omega (arith, ints)) list tt)
