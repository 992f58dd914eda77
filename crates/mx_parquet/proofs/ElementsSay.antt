-- The column of an element is the one that it is an element of.
use Rattle.std.proofs.Common.{◌≡◌, ℕ, ℤ, pos, Bool, true, false, cond, List, Option, Some, None, Ok, refl, ap, subst, ◌∙◌}
use Rattle.std.specs.Str.{IsUtf8, is_utf8}
use Rattle.mx_thrift.specs.declared.value.Value.TheVariants as values
use Rattle.mx_schema.specs.declared.column.Column.{Column}
use Rattle.mx_schema.specs.declared.column.ColumnKind.{ColumnKind}
use Rattle.mx_schema.specs.declared.column.ColumnKind.TheVariants as kinds
use Rattle.mx_parquet.specs.declared.error.Feature.TheVariants as features
use Rattle.mx_parquet.specs.Decoding.{Has, HasNo, HasConverted, IsElement, is_id}
use Rattle.mx_parquet.specs.Shape.{Struct, type_code, repetition_code}
use Rattle.mx_parquet.specs.Reading.{Read, ◌>>=◌, bad, unsupported, int_in, maybe_int_in, bytes_in}
use Rattle.mx_parquet.specs.Footer.{nullable_of, childless, nullable_in, kind_of, converted, kind_in, text_in, element_in}
use Rattle.mx_parquet.proofs.Said.{bind_ok, good, ok_is, says_int, reads_int, says_bytes, reads_bytes, says_none, says_some, reads_none, reads_some, is_id_is}
use Rattle.mx_parquet.proofs.Texts.{text_is}

-- ---- repetition

repetition_by : (n : ℤ) (zero one two : Bool) (b : Bool) → is_id 0 n ≡ zero → is_id 1 n ≡ one → cond zero (good false) (cond one (good true) (cond two (unsupported features.Nested) bad)) ≡ Ok b → n ≡ pos (repetition_code b)
repetition_by n true one two b z o e = is_id_is 0 n z ∙ ap (λ (c : Bool). pos (repetition_code c)) (ok_is false b e)
repetition_by n false true two b z o e = is_id_is 1 n o ∙ ap (λ (c : Bool). pos (repetition_code c)) (ok_is true b e)
repetition_by n false false true b z o e = absurd cc
repetition_by n false false false b z o e = absurd cc

repetition_is : (n : ℤ) (b : Bool) → nullable_of n ≡ Ok b → n ≡ pos (repetition_code b)
repetition_is n b e = repetition_by n (is_id 0 n) (is_id 1 n) (is_id 2 n) b refl refl e

repetition_reads : (b : Bool) → nullable_of (pos (repetition_code b)) ≡ Ok b
repetition_reads true = refl
repetition_reads false = refl

refused : {A : Type 0} (b : Bool) (f : ℤ → Read A) (y : A) → (cond b bad (unsupported features.Nested) >>= f) ≡ Ok y → ⊥
refused true f y e = absurd cc
refused false f y e = absurd cc

nullable_by : (children : Option ℤ) (fields : Struct) (b : Bool) → maybe_int_in 5 fields ≡ Ok children → (childless children (int_in 3 fields) >>= nullable_of) ≡ Ok b → HasNo 5 fields × Has 3 fields (values.Int (pos (repetition_code b)))
nullable_by None fields b none e =
    let n = bind_ok (int_in 3 fields) nullable_of b e in
    (says_none 5 fields none, says_int 3 fields (pos (repetition_code b)) (n.1 ∙ ap (λ (k : ℤ). good k) (repetition_is n.0 b n.2)))
nullable_by (Some count) fields b some e = absurd (refused (is_id 0 count) nullable_of b e)

nullable_says : (fields : Struct) (b : Bool) → nullable_in fields ≡ Ok b → HasNo 5 fields × Has 3 fields (values.Int (pos (repetition_code b)))
unfolding nullable_in
nullable_says fields b e =
    let children = bind_ok (maybe_int_in 5 fields) (λ children. childless children (int_in 3 fields) >>= nullable_of) b e in
    nullable_by children.0 fields b children.1 children.2

nullable_reads : (fields : Struct) (b : Bool) → HasNo 5 fields → Has 3 fields (values.Int (pos (repetition_code b))) → nullable_in fields ≡ Ok b
unfolding nullable_in
nullable_reads fields b none has = rw (reads_none 5 fields none, reads_int 3 fields (pos (repetition_code b)) has) (repetition_reads b)

-- ---- kind

pub kind_by : (n : ℤ) (zero one two six : Bool) (k : ColumnKind) → is_id 0 n ≡ zero → is_id 1 n ≡ one → is_id 2 n ≡ two → is_id 6 n ≡ six
    → cond zero (good kinds.Boolean) (cond one (good kinds.Int32) (cond two (good kinds.Int64) (cond six (good kinds.Text) (unsupported features.Kind)))) ≡ Ok k → n ≡ pos (type_code k)
kind_by n true one two six k z o t s e = is_id_is 0 n z ∙ ap (λ (c : ColumnKind). pos (type_code c)) (ok_is kinds.Boolean k e)
kind_by n false true two six k z o t s e = is_id_is 1 n o ∙ ap (λ (c : ColumnKind). pos (type_code c)) (ok_is kinds.Int32 k e)
kind_by n false false true six k z o t s e = is_id_is 2 n t ∙ ap (λ (c : ColumnKind). pos (type_code c)) (ok_is kinds.Int64 k e)
kind_by n false false false true k z o t s e = is_id_is 6 n s ∙ ap (λ (c : ColumnKind). pos (type_code c)) (ok_is kinds.Text k e)
kind_by n false false false false k z o t s e = absurd cc

pub kind_is : (n : ℤ) (k : ColumnKind) → kind_of n ≡ Ok k → n ≡ pos (type_code k)
kind_is n k e = kind_by n (is_id 0 n) (is_id 1 n) (is_id 2 n) (is_id 6 n) k refl refl refl refl e

pub kind_reads : (k : ColumnKind) → kind_of (pos (type_code k)) ≡ Ok k
kind_reads kinds.Boolean = refl
kind_reads kinds.Int32 = refl
kind_reads kinds.Int64 = refl
kind_reads kinds.Text = refl

chosen : (b : Bool) (k : ColumnKind) → cond b (good kinds.Text) (unsupported features.Converted) ≡ Ok k → (b ≡ true) × (kinds.Text ≡ k)
chosen true k e = (refl, ok_is kinds.Text k e)
chosen false k e = absurd cc

converted_says : (kind : ColumnKind) (code : Option ℤ) (fields : Struct) (k : ColumnKind) → maybe_int_in 6 fields ≡ Ok code → converted kind code ≡ Ok k → (kind ≡ k) × HasConverted kind fields
converted_says kinds.Text (Some n) fields k said e =
    let c = chosen (is_id 0 n) k e in
    (c.1, says_some 6 fields (pos 0) (said ∙ ap (λ (m : ℤ). good (Some m)) (is_id_is 0 n c.0)))
converted_says kinds.Text None fields k said e = absurd cc
converted_says kinds.Boolean (Some n) fields k said e = absurd cc
converted_says kinds.Boolean None fields k said e = (ok_is kinds.Boolean k e, says_none 6 fields said)
converted_says kinds.Int32 (Some n) fields k said e = absurd cc
converted_says kinds.Int32 None fields k said e = (ok_is kinds.Int32 k e, says_none 6 fields said)
converted_says kinds.Int64 (Some n) fields k said e = absurd cc
converted_says kinds.Int64 None fields k said e = (ok_is kinds.Int64 k e, says_none 6 fields said)

kind_says : (fields : Struct) (k : ColumnKind) → kind_in fields ≡ Ok k → Has 1 fields (values.Int (pos (type_code k))) × HasConverted k fields
unfolding kind_in
kind_says fields k e =
    let kind = bind_ok (int_in 1 fields >>= kind_of) (λ kind. maybe_int_in 6 fields >>= converted kind) k e in
    let code = bind_ok (int_in 1 fields) kind_of kind.0 kind.1 in
    let said = bind_ok (maybe_int_in 6 fields) (converted kind.0) k kind.2 in
    let is = converted_says kind.0 said.0 fields k said.1 said.2 in
    let first : Has 1 fields (values.Int (pos (type_code kind.0))) = says_int 1 fields (pos (type_code kind.0)) (code.1 ∙ ap (λ (m : ℤ). good m) (kind_is code.0 kind.0 code.2)) in
    subst (λ (c : ColumnKind). Has 1 fields (values.Int (pos (type_code c))) × HasConverted c fields) is.0 (first, is.1)

converted_reads : (k : ColumnKind) (fields : Struct) → HasConverted k fields → (maybe_int_in 6 fields >>= converted k) ≡ Ok k
converted_reads kinds.Boolean fields h = rw (reads_none 6 fields h) refl
converted_reads kinds.Int32 fields h = rw (reads_none 6 fields h) refl
converted_reads kinds.Int64 fields h = rw (reads_none 6 fields h) refl
converted_reads kinds.Text fields h = rw (reads_some 6 fields (pos 0) h) refl

kind_in_reads : (fields : Struct) (k : ColumnKind) → Has 1 fields (values.Int (pos (type_code k))) → HasConverted k fields → kind_in fields ≡ Ok k
unfolding kind_in
kind_in_reads fields k has h = rw (reads_int 1 fields (pos (type_code k)) has, kind_reads k) (converted_reads k fields h)

-- ---- name

text_by : (fields : Struct) (bytes text : List ℕ) (b : Bool) → bytes_in 4 fields ≡ Ok bytes → cond b (good bytes) bad ≡ Ok text → Has 4 fields (values.Bytes text)
text_by fields bytes text true said e = says_bytes 4 fields text (said ∙ e)
text_by fields bytes text false said e = absurd cc

text_says : (fields : Struct) (text : List ℕ) → text_in 4 fields ≡ Ok text → Has 4 fields (values.Bytes text)
unfolding text_in
text_says fields text e =
    let bytes = bind_ok (bytes_in 4 fields) (λ bytes. cond (is_utf8 bytes) (good bytes) bad) text e in
    text_by fields bytes.0 text (is_utf8 bytes.0) bytes.1 bytes.2

-- ---- the element

abbrev pub column_of : Bool → ColumnKind → List ℕ → Column
column_of nullable kind name = record { name = name; kind = kind; nullable = nullable }

pub element_says : (fields : Struct) (column : Column) → element_in fields ≡ Ok column → IsElement column fields
unfolding element_in
element_says fields column e =
    let nullable = bind_ok (nullable_in fields) (λ nullable. kind_in fields >>= λ kind. text_in 4 fields >>= λ name. good (column_of nullable kind name)) column e in
    let kind = bind_ok (kind_in fields) (λ kind. text_in 4 fields >>= λ name. good (column_of nullable.0 kind name)) column nullable.2 in
    let name = bind_ok (text_in 4 fields) (λ name. good (column_of nullable.0 kind.0 name)) column kind.2 in
    let n = nullable_says fields nullable.0 nullable.1 in
    let k = kind_says fields kind.0 kind.1 in
    subst (λ (c : Column). IsElement c fields) (ok_is (column_of nullable.0 kind.0 name.0) column name.2) (record { typed = k.0; repeated = n.1; named = text_says fields name.0 name.1; leaf = n.0; converted = k.1 })

pub element_reads : (fields : Struct) (column : Column) → IsUtf8 column.name → IsElement column fields → element_in fields ≡ Ok column
unfolding element_in
element_reads fields column utf8 is =
    rw (
      nullable_reads fields column.nullable is.leaf is.repeated,
      kind_in_reads fields column.kind is.typed is.converted,
      text_is 4 fields column.name (reads_bytes 4 fields column.name is.named) utf8,
    ) refl
