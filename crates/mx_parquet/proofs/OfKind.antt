-- What is read of a value of each kind.
use Rattle.std.proofs.Common.{◌≡◌, ℕ, Bool, arith, eqb, false, ℤ, List, Ok, Err, refl, sym, ap, ◌∙◌, cond}
use Rattle.std.proofs.lemmas.Bool.{eq-eqb}
use Rattle.std.proofs.lemmas.Bool.Decides.{nat_tests}
use Rattle.mx_thrift.specs.declared.value.Value.{Value}
use Rattle.mx_thrift.specs.declared.value.Value.TheViews.{roll-Value, out-Value, roll-out-Value, out-roll-Value}
use Rattle.mx_thrift.specs.declared.value.Value.TheVariants as values
use Rattle.mx_thrift.specs.declared.value.Value.TheVariants.{rolls-Int, rolls-Long, rolls-Bytes, rolls-List, rolls-Struct}
use Rattle.mx_thrift.specs.declared.value.Value.TheOpen as layers
use Rattle.mx_thrift.specs.declared.value.Field.{Field}
use Rattle.mx_parquet.specs.declared.error.Flaw.TheVariants as flaws
use Rattle.mx_parquet.specs.Reading.{Layer, int_layer, long_layer, bytes_layer, struct_layer, list_layer, as_int, as_long, as_bytes, as_struct, as_list}

-- ---- of the kind

seen : {A : Type 0} (read : Layer → A) (v w : Value) (l : Layer) (x : A) → v ≡ w → roll-Value l ≡ w → read l ≡ x → read (out-Value v) ≡ x
seen read v w l x e rolls is = ap (λ (u : Value). read (out-Value u)) (e ∙ sym rolls) ∙ ap read (out-roll-Value l) ∙ is

pub is_int : (v : Value) (n : ℤ) → v ≡ values.Int n → as_int v ≡ Ok n
unfolding as_int
is_int v n e = seen int_layer v (values.Int n) (layers.Int n) (Ok n) e (rolls-Int n) refl

pub is_long : (v : Value) (n : ℤ) → v ≡ values.Long n → as_long v ≡ Ok n
unfolding as_long
is_long v n e = seen long_layer v (values.Long n) (layers.Long n) (Ok n) e (rolls-Long n) refl

pub is_bytes : (v : Value) (text : List ℕ) → v ≡ values.Bytes text → as_bytes v ≡ Ok text
unfolding as_bytes
is_bytes v text e = seen bytes_layer v (values.Bytes text) (layers.Bytes text) (Ok text) e (rolls-Bytes text) refl

pub is_struct : (v : Value) (fields : List Field) → v ≡ values.Struct fields → as_struct v ≡ Ok fields
unfolding as_struct
is_struct v fields e = seen struct_layer v (values.Struct fields) (layers.Struct fields) (Ok fields) e (rolls-Struct fields) refl

list_seen : (code : ℕ) (v : Value) (kind : ℕ) (items : List Value) → v ≡ values.List kind items → as_list code v ≡ cond (eqb kind code) (Ok items) (Err flaws.Bad)
unfolding as_list
list_seen code v kind items e = seen (list_layer code) v (values.List kind items) (layers.List kind items) (cond (eqb kind code) (Ok items) (Err flaws.Bad)) e (rolls-List kind items) refl

pub is_list : (code : ℕ) (v : Value) (kind : ℕ) (items : List Value) → v ≡ values.List kind items → kind ≡ code → as_list code v ≡ Ok items
is_list code v kind items e same = list_seen code v kind items e ∙ ap (λ (b : Bool). cond b (Ok items) (Err flaws.Bad)) (eq-eqb kind code same)

pub other_list : (code : ℕ) (v : Value) (kind : ℕ) (items : List Value) → v ≡ values.List kind items → (kind ≡ code → ⊥) → as_list code v ≡ Err flaws.Bad
other_list code v kind items e other =
    let differs : eqb kind code ≡ false = grind (arith, nat_tests) in
    list_seen code v kind items e ∙ ap (λ (b : Bool). cond b (Ok items) (Err flaws.Bad)) differs

-- ---- of another

no_int : (v : Value) (l : Layer) → v ≡ roll-Value l → ((n : ℤ) → v ≡ values.Int n → ⊥) → int_layer l ≡ Err flaws.Bad
no_int v (layers.Int n) e other = absurd (other n (e ∙ rolls-Int n))
no_int v l e other = refl

pub not_int : (v : Value) → ((n : ℤ) → v ≡ values.Int n → ⊥) → as_int v ≡ Err flaws.Bad
unfolding as_int
not_int v other = no_int v (out-Value v) (sym (roll-out-Value v)) other

no_long : (v : Value) (l : Layer) → v ≡ roll-Value l → ((n : ℤ) → v ≡ values.Long n → ⊥) → long_layer l ≡ Err flaws.Bad
no_long v (layers.Long n) e other = absurd (other n (e ∙ rolls-Long n))
no_long v l e other = refl

pub not_long : (v : Value) → ((n : ℤ) → v ≡ values.Long n → ⊥) → as_long v ≡ Err flaws.Bad
unfolding as_long
not_long v other = no_long v (out-Value v) (sym (roll-out-Value v)) other

no_bytes : (v : Value) (l : Layer) → v ≡ roll-Value l → ((text : List ℕ) → v ≡ values.Bytes text → ⊥) → bytes_layer l ≡ Err flaws.Bad
no_bytes v (layers.Bytes text) e other = absurd (other text (e ∙ rolls-Bytes text))
no_bytes v l e other = refl

pub not_bytes : (v : Value) → ((text : List ℕ) → v ≡ values.Bytes text → ⊥) → as_bytes v ≡ Err flaws.Bad
unfolding as_bytes
not_bytes v other = no_bytes v (out-Value v) (sym (roll-out-Value v)) other

no_struct : (v : Value) (l : Layer) → v ≡ roll-Value l → ((fields : List Field) → v ≡ values.Struct fields → ⊥) → struct_layer l ≡ Err flaws.Bad
no_struct v (layers.Struct fields) e other = absurd (other fields (e ∙ rolls-Struct fields))
no_struct v l e other = refl

pub not_struct : (v : Value) → ((fields : List Field) → v ≡ values.Struct fields → ⊥) → as_struct v ≡ Err flaws.Bad
unfolding as_struct
not_struct v other = no_struct v (out-Value v) (sym (roll-out-Value v)) other

no_list : (code : ℕ) (v : Value) (l : Layer) → v ≡ roll-Value l → ((kind : ℕ) (items : List Value) → v ≡ values.List kind items → ⊥) → list_layer code l ≡ Err flaws.Bad
no_list code v (layers.List kind items) e other = absurd (other kind items (e ∙ rolls-List kind items))
no_list code v l e other = refl

pub not_list : (code : ℕ) (v : Value) → ((kind : ℕ) (items : List Value) → v ≡ values.List kind items → ⊥) → as_list code v ≡ Err flaws.Bad
unfolding as_list
not_list code v other = no_list code v (out-Value v) (sym (roll-out-Value v)) other
