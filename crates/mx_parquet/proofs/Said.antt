-- What was read of fields stands there, and what stands there is read.
use Rattle.std.proofs.Common.{◌≡◌, ℕ, ℤ, pos, negsuc, Bool, true, false, eqb, cond, List, [], ◌∷◌, Option, Some, None, Ok, Err, refl, sym, ap, ◌∙◌}
use Rattle.std.proofs.lemmas.Bool.{eqb-true, eq-eqb}
use Rattle.mx_thrift.specs.declared.value.Value.{Value}
use Rattle.mx_thrift.specs.declared.value.Value.TheViews.{roll-Value, out-Value, roll-out-Value}
use Rattle.mx_thrift.specs.declared.value.Value.TheVariants as values
use Rattle.mx_thrift.specs.declared.value.Value.TheVariants.{rolls-Int, rolls-Long, rolls-Bytes, rolls-List, rolls-Struct}
use Rattle.mx_thrift.specs.declared.value.Value.TheOpen as layers
use Rattle.mx_parquet.specs.Decoding.{Has, HasNo, is_id, values_of}
use Rattle.mx_parquet.specs.Shape.{Struct}
use Rattle.mx_parquet.specs.Reading.{Read, ◌>>=◌, bad, Layer, int_layer, long_layer, bytes_layer, struct_layer, list_layer, as_int, as_long, as_bytes, as_struct, as_list, at_most_once, needed, int_if, int_in, maybe_int_in, long_in, bytes_in, struct_in, list_in, is_missing, count_of}
use Rattle.mx_parquet.proofs.OfKind.{is_int, is_long, is_bytes, is_struct, is_list}

-- the value of a step that did not fail
pub bind_ok : {A B : Type 0} (r : Read A) (f : A → Read B) (y : B) → (r >>= f) ≡ Ok y → (x : A) × (r ≡ Ok x) × (f x ≡ Ok y)
bind_ok (Ok x) f y e = (x, refl, e)
bind_ok (Err flaw) f y e = absurd cc

abbrev pub good : {A : Type 0} → A → Read A
good x = Ok x

pub ok_is : {A : Type 0} (x y : A) → good x ≡ good y → x ≡ y
ok_is x y e = cc

-- ---- values

rolled : (v w : Value) → roll-Value (out-Value v) ≡ w → v ≡ w
rolled v w e = sym (roll-out-Value v) ∙ e

int_of : (l : Layer) (n : ℤ) → int_layer l ≡ Ok n → roll-Value l ≡ values.Int n
int_of (layers.Int m) n e = rolls-Int m ∙ ap (λ (k : ℤ). values.Int k) (ok_is m n e)
int_of l n e = absurd cc

pub int_is : (v : Value) (n : ℤ) → as_int v ≡ Ok n → v ≡ values.Int n
unfolding as_int
int_is v n e = rolled v (values.Int n) (int_of (out-Value v) n e)

long_of : (l : Layer) (n : ℤ) → long_layer l ≡ Ok n → roll-Value l ≡ values.Long n
long_of (layers.Long m) n e = rolls-Long m ∙ ap (λ (k : ℤ). values.Long k) (ok_is m n e)
long_of l n e = absurd cc

pub long_is : (v : Value) (n : ℤ) → as_long v ≡ Ok n → v ≡ values.Long n
unfolding as_long
long_is v n e = rolled v (values.Long n) (long_of (out-Value v) n e)

bytes_of : (l : Layer) (text : List ℕ) → bytes_layer l ≡ Ok text → roll-Value l ≡ values.Bytes text
bytes_of (layers.Bytes bytes) text e = rolls-Bytes bytes ∙ ap (λ (k : List ℕ). values.Bytes k) (ok_is bytes text e)
bytes_of l text e = absurd cc

pub bytes_is : (v : Value) (text : List ℕ) → as_bytes v ≡ Ok text → v ≡ values.Bytes text
unfolding as_bytes
bytes_is v text e = rolled v (values.Bytes text) (bytes_of (out-Value v) text e)

struct_of : (l : Layer) (fields : Struct) → struct_layer l ≡ Ok fields → roll-Value l ≡ values.Struct fields
struct_of (layers.Struct inner) fields e = rolls-Struct inner ∙ ap (λ (k : Struct). values.Struct k) (ok_is inner fields e)
struct_of l fields e = absurd cc

pub struct_is : (v : Value) (fields : Struct) → as_struct v ≡ Ok fields → v ≡ values.Struct fields
unfolding as_struct
struct_is v fields e = rolled v (values.Struct fields) (struct_of (out-Value v) fields e)

pub passed : {A : Type 0} (b : Bool) (x y : A) → cond b (good x) bad ≡ Ok y → (b ≡ true) × (x ≡ y)
passed true x y e = (refl, ok_is x y e)
passed false x y e = absurd cc

list_of : (code : ℕ) (l : Layer) (items : List Value) → list_layer code l ≡ Ok items → roll-Value l ≡ values.List code items
list_of code (layers.List kind found) items e =
    let p = passed (eqb kind code) found items e in
    rolls-List kind found ∙ ap (λ (k : ℕ). values.List k found) (eqb-true kind code p.0) ∙ ap (λ (k : List Value). values.List code k) p.1
list_of code l items e = absurd cc

pub list_is : (code : ℕ) (v : Value) (items : List Value) → as_list code v ≡ Ok items → v ≡ values.List code items
unfolding as_list
list_is code v items e = rolled v (values.List code items) (list_of code (out-Value v) items e)

-- ---- fields

stands : (vs : List Value) (v : Value) → (at_most_once vs >>= needed) ≡ Ok v → vs ≡ v ∷ []
stands [] v e = absurd cc
stands (w ∷ []) v e = ap (λ (u : Value). u ∷ []) (ok_is w v e)
stands (w ∷ x ∷ more) v e = absurd cc

found : {A : Type 0} (vs : List Value) (v : Value) (read : Value → Read A) (x : A) → vs ≡ v ∷ [] → read v ≡ Ok x → (at_most_once vs >>= needed >>= read) ≡ Ok x
found vs v read x e h = rw e h

-- a field read as a kind of value
said : {A : Type 0} (vs : List Value) (read : Value → Read A) (make : A → Value) (x : A) → ((v : Value) → read v ≡ Ok x → v ≡ make x) → (at_most_once vs >>= needed >>= read) ≡ Ok x → vs ≡ make x ∷ []
said vs read make x is e =
    let p = bind_ok (at_most_once vs >>= needed) read x e in
    stands vs p.0 p.1 ∙ ap (λ (u : Value). u ∷ []) (is p.0 p.2)

pub says_int : (id : ℕ) (fields : Struct) (n : ℤ) → int_in id fields ≡ Ok n → Has id fields (values.Int n)
unfolding int_in
says_int id fields n e = said (values_of id fields) as_int values.Int n (λ v h. int_is v n h) e

pub reads_int : (id : ℕ) (fields : Struct) (n : ℤ) → Has id fields (values.Int n) → int_in id fields ≡ Ok n
unfolding int_in
reads_int id fields n h = found (values_of id fields) (values.Int n) as_int n h (is_int (values.Int n) n refl)

pub says_long : (id : ℕ) (fields : Struct) (n : ℤ) → long_in id fields ≡ Ok n → Has id fields (values.Long n)
unfolding long_in
says_long id fields n e = said (values_of id fields) as_long values.Long n (λ v h. long_is v n h) e

pub reads_long : (id : ℕ) (fields : Struct) (n : ℤ) → Has id fields (values.Long n) → long_in id fields ≡ Ok n
unfolding long_in
reads_long id fields n h = found (values_of id fields) (values.Long n) as_long n h (is_long (values.Long n) n refl)

pub says_bytes : (id : ℕ) (fields : Struct) (text : List ℕ) → bytes_in id fields ≡ Ok text → Has id fields (values.Bytes text)
unfolding bytes_in
says_bytes id fields text e = said (values_of id fields) as_bytes values.Bytes text (λ v h. bytes_is v text h) e

pub reads_bytes : (id : ℕ) (fields : Struct) (text : List ℕ) → Has id fields (values.Bytes text) → bytes_in id fields ≡ Ok text
unfolding bytes_in
reads_bytes id fields text h = found (values_of id fields) (values.Bytes text) as_bytes text h (is_bytes (values.Bytes text) text refl)

pub says_struct : (id : ℕ) (fields inner : Struct) → struct_in id fields ≡ Ok inner → Has id fields (values.Struct inner)
unfolding struct_in
says_struct id fields inner e = said (values_of id fields) as_struct values.Struct inner (λ v h. struct_is v inner h) e

pub reads_struct : (id : ℕ) (fields inner : Struct) → Has id fields (values.Struct inner) → struct_in id fields ≡ Ok inner
unfolding struct_in
reads_struct id fields inner h = found (values_of id fields) (values.Struct inner) as_struct inner h (is_struct (values.Struct inner) inner refl)

pub says_list : (code id : ℕ) (fields : Struct) (items : List Value) → list_in code id fields ≡ Ok items → Has id fields (values.List code items)
unfolding list_in
says_list code id fields items e = said (values_of id fields) (as_list code) (values.List code) items (λ v h. list_is code v items h) e

pub reads_list : (code id : ℕ) (fields : Struct) (items : List Value) → Has id fields (values.List code items) → list_in code id fields ≡ Ok items
unfolding list_in
reads_list code id fields items h = found (values_of id fields) (values.List code items) (as_list code) items h (is_list code (values.List code items) code items refl refl)

-- ---- a number that may be missing

some_int : (r : Read ℤ) (o : Option ℤ) → (r >>= λ n. good (Some n)) ≡ Ok o → (n : ℤ) × (r ≡ Ok n) × (o ≡ Some n)
some_int (Ok n) o e = (n, refl, sym (ok_is (Some n) o e))
some_int (Err flaw) o e = absurd cc

none_stands : (vs : List Value) → (at_most_once vs >>= int_if) ≡ Ok None → vs ≡ []
none_stands [] e = refl
none_stands (v ∷ []) e = let p = some_int (as_int v) None e in absurd cc
none_stands (v ∷ w ∷ more) e = absurd cc

some_stands : (vs : List Value) (n : ℤ) → (at_most_once vs >>= int_if) ≡ Ok (Some n) → vs ≡ values.Int n ∷ []
some_stands [] n e = absurd cc
some_stands (v ∷ []) n e =
    let p = some_int (as_int v) (Some n) e in
    let same : n ≡ p.0 = cc in
    ap (λ (u : Value). u ∷ []) (int_is v p.0 p.1 ∙ ap (λ (k : ℤ). values.Int k) (sym same))
some_stands (v ∷ w ∷ more) n e = absurd cc

pub says_none : (id : ℕ) (fields : Struct) → maybe_int_in id fields ≡ Ok None → HasNo id fields
unfolding maybe_int_in
says_none id fields e = none_stands (values_of id fields) e

pub says_some : (id : ℕ) (fields : Struct) (n : ℤ) → maybe_int_in id fields ≡ Ok (Some n) → Has id fields (values.Int n)
unfolding maybe_int_in
says_some id fields n e = some_stands (values_of id fields) n e

pub reads_none : (id : ℕ) (fields : Struct) → HasNo id fields → maybe_int_in id fields ≡ Ok None
unfolding maybe_int_in
reads_none id fields h = rw h refl

pub reads_some : (id : ℕ) (fields : Struct) (n : ℤ) → Has id fields (values.Int n) → maybe_int_in id fields ≡ Ok (Some n)
unfolding maybe_int_in
reads_some id fields n h = rw (h, is_int (values.Int n) n refl) refl

-- ---- numbers

pub is_id_is : (m : ℕ) (n : ℤ) → is_id m n ≡ true → n ≡ pos m
is_id_is m (pos k) e = ap pos (eqb-true k m e)
is_id_is m (negsuc k) e = absurd cc

pub is_id_same : (m : ℕ) → is_id m (pos m) ≡ true
is_id_same m = eq-eqb m m refl

pub count_is : (n : ℤ) (m : ℕ) → count_of n ≡ Ok m → n ≡ pos m
count_is (pos k) m e = ap pos (ok_is k m e)
count_is (negsuc k) m e = absurd cc

pub missing_is : (vs : List Value) → is_missing vs ≡ true → vs ≡ []
missing_is [] e = refl
missing_is (v ∷ vs) e = absurd cc
