-- Values and fields that can be written, for callers and for loops that make them.
use Rattle.std.proofs.Common.{◌≡◌, ℕ, zero, suc, ◌<◌, ◌^◌, ℤ, pos, ◌+ℤ◌, List, [], ◌∷◌, ◌++◌, length, refl, sym, ap, subst, ◌∙◌, inl, inr}
use Rattle.std.specs.Int.RustNames.{FitsSigned}
use Rattle.std.specs.Int.{w16, w32, w64}
use Rattle.std.specs.List.{AllByRecursion}
use Rattle.mx_thrift.specs.declared.value.Value.{Value}
use Rattle.mx_thrift.specs.declared.value.Value.TheVariants as values
use Rattle.mx_thrift.specs.declared.value.Field.{Field}
use Rattle.mx_thrift.specs.Encoding.{IsItemCode, FieldsRise, IsWritableValue}

pub can_int : (depth : ℕ) (n : ℤ) → FitsSigned w32 n → IsWritableValue depth 5 (values.Int n)
unfolding IsWritableValue
can_int zero n fits = inl (refl, (n, fits, refl))
can_int (suc depth) n fits = inl (inl (refl, (n, fits, refl)))

pub can_long : (depth : ℕ) (n : ℤ) → FitsSigned w64 n → IsWritableValue depth 6 (values.Long n)
unfolding IsWritableValue
can_long zero n fits = inr (inl (refl, (n, fits, refl)))
can_long (suc depth) n fits = inl (inr (inl (refl, (n, fits, refl))))

pub can_bytes : (depth : ℕ) (text : List ℕ) → length text < 2 ^ 31 → IsWritableValue depth 8 (values.Bytes text)
unfolding IsWritableValue
can_bytes zero text lt = inr (inr (refl, (text, lt, refl)))
can_bytes (suc depth) text lt = inl (inr (inr (refl, (text, lt, refl))))

pub can_list : (depth kind : ℕ) (items : List Value) → IsItemCode kind → length items < 2 ^ 31 → AllByRecursion (IsWritableValue depth kind) items → IsWritableValue (suc depth) 9 (values.List kind items)
unfolding IsWritableValue
can_list depth kind items item lt all = inr (inl (refl, (kind, items, item, lt, all, refl)))

pub can_struct : (depth : ℕ) (fields : List Field) → FieldsRise (IsWritableValue depth) (pos 0) fields → IsWritableValue (suc depth) 12 (values.Struct fields)
unfolding IsWritableValue
can_struct depth fields rise = inr (inr (refl, (fields, rise, refl)))

-- one more item
pub all_push : (P : Value → Type 0) (items : List Value) (v : Value) → AllByRecursion P items → P v → AllByRecursion P (items ++ v ∷ [])
all_push P [] v all p = (p, tt)
all_push P (x ∷ items) v all p = (all.0, all_push P items v all.1 p)

-- one field in front
pub rise_by : (Inner : ℕ → Value → Type 0) (last id : ℤ) (gap code : ℕ) (value : Value) (f : Field) (rest : List Field) → f ≡ record { id = id; value = value } → 0 < gap → gap < 16 → id ≡ last +ℤ pos gap → FitsSigned w16 id
    → Inner code value → FieldsRise Inner id rest → FieldsRise Inner last (f ∷ rest)
rise_by Inner last id gap code value f rest is some lt above fits can rise =
    let front : Field = record { id = id; value = value } in
    subst (λ (g : Field). FieldsRise Inner last (g ∷ rest)) (sym is) (gap, some, lt, above, fits, (code, can), rise)

-- lists that were made by pushes
pub three : {A : Type 0} (a b c d : List A) (x y z : A) → a ≡ [] → b ≡ a ++ x ∷ [] → c ≡ b ++ y ∷ [] → d ≡ c ++ z ∷ [] → d ≡ x ∷ y ∷ z ∷ []
three a b c d x y z pa pb pc pd = pd ∙ ap (λ (t : List _). t ++ z ∷ []) (pc ∙ ap (λ (t : List _). t ++ y ∷ []) (pb ∙ ap (λ (t : List _). t ++ x ∷ []) pa))

pub four : {A : Type 0} (a b c d e : List A) (w x y z : A) → a ≡ [] → b ≡ a ++ w ∷ [] → c ≡ b ++ x ∷ [] → d ≡ c ++ y ∷ [] → e ≡ d ++ z ∷ [] → e ≡ w ∷ x ∷ y ∷ z ∷ []
four a b c d e w x y z pa pb pc pd pe = pe ∙ ap (λ (t : List _). t ++ z ∷ []) (three a b c d w x y pa pb pc pd)

pub one : {A : Type 0} (a b : List A) (x : A) → a ≡ [] → b ≡ a ++ x ∷ [] → b ≡ x ∷ []
one a b x pa pb = pb ∙ ap (λ (t : List _). t ++ x ∷ []) pa
