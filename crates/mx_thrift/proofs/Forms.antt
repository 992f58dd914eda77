-- The written form of each value.
use Rattle.std.proofs.Common.{◌≡◌, ℕ, ℤ, pos, List, [], ◌++◌, length, map, flat_map, ap, ◌∙◌, sym}
use Rattle.mx_avro.specs.Encoding.{long_encoding}
use Rattle.mx_thrift.specs.declared.value.Value.{Value}
use Rattle.mx_thrift.specs.declared.value.Value.TheViews.{roll-Value, out-Value, roll-out-Value}
use Rattle.mx_thrift.specs.declared.value.Value.TheOpen.{Value-F}
use Rattle.mx_thrift.specs.declared.value.Value.TheVariants as values
use Rattle.mx_thrift.specs.declared.value.Value.TheVariants.{rolls-Int, rolls-Long, rolls-Bytes, rolls-List, rolls-Struct}
use Rattle.mx_thrift.specs.declared.value.Value.TheOpen as layers
use Rattle.mx_thrift.specs.declared.value.Value.TheFolds.{fold-roll-Value, fold-roll-Field}
use Rattle.mx_thrift.specs.declared.value.Field.{Field}
use Rattle.mx_thrift.specs.Encoding.{count_bytes, list_head, Written, struct_bytes, layer_form, field_form, written_value, written_field}

pub form-Int : (n : ℤ) → written_value (values.Int n) ≡ (5, long_encoding n)
unfolding written_value
form-Int n = ap written_value (sym (rolls-Int n)) ∙ fold-roll-Value (ℕ × List ℕ) Written layer_form field_form (layers.Int n)

pub form-Long : (n : ℤ) → written_value (values.Long n) ≡ (6, long_encoding n)
unfolding written_value
form-Long n = ap written_value (sym (rolls-Long n)) ∙ fold-roll-Value (ℕ × List ℕ) Written layer_form field_form (layers.Long n)

pub form-Bytes : (text : List ℕ) → written_value (values.Bytes text) ≡ (8, count_bytes (length text) ++ text)
unfolding written_value
form-Bytes text = ap written_value (sym (rolls-Bytes text)) ∙ fold-roll-Value (ℕ × List ℕ) Written layer_form field_form (layers.Bytes text)

pub form-List : (kind : ℕ) (items : List Value) → written_value (values.List kind items) ≡ (9, list_head kind (length (map written_value items)) ++ flat_map (λ item. item.1) (map written_value items))
unfolding written_value
form-List kind items = ap written_value (sym (rolls-List kind items)) ∙ fold-roll-Value (ℕ × List ℕ) Written layer_form field_form (layers.List kind items)

pub form-Struct : (fields : List Field) → written_value (values.Struct fields) ≡ (12, struct_bytes (pos 0) (map written_field fields))
unfolding written_value written_field
form-Struct fields = ap written_value (sym (rolls-Struct fields)) ∙ fold-roll-Value (ℕ × List ℕ) Written layer_form field_form (layers.Struct fields)

pub form-field : (f : Field) → written_field f ≡ record { id = f.id; code = (written_value f.value).0; bytes = (written_value f.value).1 }
unfolding written_value written_field
form-field f = fold-roll-Field (ℕ × List ℕ) Written layer_form field_form (record { id = f.id; value = f.value })

other : (v : Value) (l : Value-F Value Field) → v ≡ roll-Value l → ((n : ℤ) → v ≡ values.Int n → ⊥) → ((n : ℤ) → v ≡ values.Long n → ⊥) → ((text : List ℕ) → v ≡ values.Bytes text → ⊥)
    → ((kind : ℕ) (items : List Value) → v ≡ values.List kind items → ⊥) → ((fields : List Field) → v ≡ values.Struct fields → ⊥) → written_value v ≡ (0, [])
unfolding written_value
other v (layers.Flag b) e ni nl nb nk ns = ap written_value e ∙ fold-roll-Value (ℕ × List ℕ) Written layer_form field_form (layers.Flag b)
other v (layers.Byte n) e ni nl nb nk ns = ap written_value e ∙ fold-roll-Value (ℕ × List ℕ) Written layer_form field_form (layers.Byte n)
other v (layers.Short n) e ni nl nb nk ns = ap written_value e ∙ fold-roll-Value (ℕ × List ℕ) Written layer_form field_form (layers.Short n)
other v (layers.Int n) e ni nl nb nk ns = absurd (ni n (e ∙ rolls-Int n))
other v (layers.Long n) e ni nl nb nk ns = absurd (nl n (e ∙ rolls-Long n))
other v (layers.Double d) e ni nl nb nk ns = ap written_value e ∙ fold-roll-Value (ℕ × List ℕ) Written layer_form field_form (layers.Double d)
other v (layers.Bytes text) e ni nl nb nk ns = absurd (nb text (e ∙ rolls-Bytes text))
other v (layers.List kind items) e ni nl nb nk ns = absurd (nk kind items (e ∙ rolls-List kind items))
other v (layers.Set kind items) e ni nl nb nk ns = ap written_value e ∙ fold-roll-Value (ℕ × List ℕ) Written layer_form field_form (layers.Set kind items)
other v (layers.Map key value pairs) e ni nl nb nk ns = ap written_value e ∙ fold-roll-Value (ℕ × List ℕ) Written layer_form field_form (layers.Map key value pairs)
other v (layers.Struct fields) e ni nl nb nk ns = absurd (ns fields (e ∙ rolls-Struct fields))

pub form_other : (v : Value) → ((n : ℤ) → v ≡ values.Int n → ⊥) → ((n : ℤ) → v ≡ values.Long n → ⊥) → ((text : List ℕ) → v ≡ values.Bytes text → ⊥)
    → ((kind : ℕ) (items : List Value) → v ≡ values.List kind items → ⊥) → ((fields : List Field) → v ≡ values.Struct fields → ⊥) → written_value v ≡ (0, [])
form_other v = other v (out-Value v) (sym (roll-out-Value v))
