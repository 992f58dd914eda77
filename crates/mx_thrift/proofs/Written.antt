-- What is written is in the grammar.
use Rattle.std.proofs.Common.{◌≡◌, ℕ, zero, suc, ◌+◌, ◌*◌, ◌/◌, ◌%◌, ◌^◌, ◌<◌, ◌≤◌, ℤ, pos, negsuc, ◌+ℤ◌, ◌-ℤ◌, true, false, ltb, List, [], ◌∷◌, ◌++◌, length, map, flat_map, Option, Some, refl, sym, ap, subst, ◌∙◌, arith, inl, inr}
use Rattle.std.proofs.lemmas.Bool.{cases_lt, le-ltb, lt-ltb}
use Rattle.std.proofs.lemmas.Int.{ints}
use Rattle.std.proofs.lemmas.List.{length-map}
use Rattle.std.proofs.Math.Nat.{pow-suc}
use Rattle.std.specs.Int.RustNames.{FitsSigned}
use Rattle.std.specs.Int.{w16, w32, w64}
use Rattle.std.specs.List.{AllByRecursion}
use Rattle.mx_avro.specs.Encoding.{groups, long_encoding}
use Rattle.mx_thrift.specs.declared.kind.Kind.{Kind}
use Rattle.mx_thrift.specs.declared.kind.Kind.TheVariants as kinds
use Rattle.mx_thrift.specs.declared.value.Value.{Value}
use Rattle.mx_thrift.specs.declared.value.Field.{Field}
use Rattle.mx_thrift.specs.Types.{kind_of_code}
use Rattle.mx_thrift.specs.Grammar.{Grammar, IsGroups, groups_value, IsNumber, IsSigned, IsText, InTurn, IsListHead, AreItems, DecodesList, DecodesField, IsField, DecodesFields, DecodesLeaf, DecodesOver, DecodesValue, Decodes}
use Rattle.mx_thrift.specs.Encoding.{count_bytes, list_head, small_gap, Written, struct_bytes, written_value, written_field, written, IsItemCode, IsListOf, IsStructOf, FieldsRise, IsWritableLeaf, IsWritableOver, IsWritableValue, IsWritable}
use Rattle.mx_thrift.proofs.Forms.{form-Int, form-Long, form-Bytes, form-List, form-Struct, form-field}

-- ---- numbers

longer : (b : ℕ) (text : List ℕ) → 128 ≤ b → IsGroups text → IsGroups (b ∷ text)
longer b [] le g = absurd g
longer b (c ∷ text) le g = (le, g)

record Good (k n : ℕ) : Type 0 where
  pub is : IsGroups (groups k n)
  pub most : length (groups k n) ≤ suc k
  pub value : n ≡ groups_value (groups k n)

groups_good : (k n : ℕ) → n < 2 * 128 ^ k → Good k n
unfolding groups
groups_good zero n lt = record { is = (let q : n < 128 = omega arith in q); most = omega arith; value = (let q : n ≡ n % 128 + 128 * 0 = omega arith in q) }
groups_good (suc k) n lt = elim (cases_lt n 128) [
  | inl low ↦
      let test : ltb n 128 ≡ true = lt-ltb n 128 low in
      record { is = rw test low; most = rw test (omega arith); value = rw test (let q : n ≡ n % 128 + 128 * 0 = omega arith in q) }
  | inr high ↦
      let test : ltb n 128 ≡ false = le-ltb _ _ high in
      let g = groups_good k (n / 128) (omega (arith, pow-suc 128 k)) in
      record {
        is = rw test (longer (n % 128 + 128) (groups k (n / 128)) (omega arith) g.is);
        most = rw test (omega (arith, g.most));
        value = rw test (let q : n ≡ (n % 128 + 128) % 128 + 128 * groups_value (groups k (n / 128)) = omega (arith, g.value) in q);
      }
]

number_good : (limit n : ℕ) → n < limit → limit ≤ 2 ^ 64 → IsNumber limit (groups 9 n) n
number_good limit n lt le = let g = groups_good 9 n (omega arith) in record { groups = g.is; most = g.most; value = g.value; below = lt }

int_good : (n : ℤ) → FitsSigned w32 n → IsSigned (2 ^ 32) (long_encoding n) n
unfolding long_encoding
int_good (pos n) fits = number_good (2 ^ 32) (2 * n) (omega (arith, ints)) (omega arith)
int_good (negsuc n) fits = number_good (2 ^ 32) (2 * n + 1) (omega (arith, ints)) (omega arith)

long_good : (n : ℤ) → FitsSigned w64 n → IsSigned (2 ^ 64) (long_encoding n) n
unfolding long_encoding
long_good (pos n) fits = number_good (2 ^ 64) (2 * n) (omega (arith, ints)) (omega arith)
long_good (negsuc n) fits = number_good (2 ^ 64) (2 * n + 1) (omega (arith, ints)) (omega arith)

text_good : (text : List ℕ) → length text < 2 ^ 31 → IsText (count_bytes (length text) ++ text) text
text_good text lt = record { front = count_bytes (length text); len = number_good (2 ^ 31) (length text) lt (omega arith); parts = refl }

-- ---- values

-- a value as it is written, of the type with that code
record Shown (Inner : Kind → Grammar Value) (code : ℕ) (v : Value) : Type 0 where
  pub kind : Kind
  pub named : kind_of_code code ≡ Some kind
  pub coded : (written_value v).0 ≡ code
  pub decodes : Inner kind (written_value v).1 v
  pub held : DecodesField Inner code kind (written_value v).1 v

leaf_shown : (Inner : Kind → Grammar Value) (code : ℕ) (v : Value) → ((bytes : List ℕ) → DecodesLeaf kinds.Int bytes v → Inner kinds.Int bytes v) → ((bytes : List ℕ) → DecodesLeaf kinds.Long bytes v → Inner kinds.Long bytes v)
    → ((bytes : List ℕ) → DecodesLeaf kinds.Bytes bytes v → Inner kinds.Bytes bytes v) → IsWritableLeaf code v → Shown Inner code v
unfolding kind_of_code
leaf_shown Inner code v int long text (inl g) =
    let n = g.1.0 in
    let form : written_value v ≡ (5, long_encoding n) = ap written_value g.1.2 ∙ form-Int n in
    let bytes : (written_value v).1 ≡ long_encoding n = ap (λ (y : ℕ × List ℕ). y.1) form in
    let good : DecodesLeaf kinds.Int (written_value v).1 v = (n, subst (λ (b : List ℕ). IsSigned (2 ^ 32) b n) (sym bytes) (int_good n g.1.1), g.1.2) in
    record { kind = kinds.Int; named = ap kind_of_code g.0; coded = ap (λ (y : ℕ × List ℕ). y.0) form ∙ sym g.0; decodes = int _ good; held = int _ good }
leaf_shown Inner code v int long text (inr (inl g)) =
    let n = g.1.0 in
    let form : written_value v ≡ (6, long_encoding n) = ap written_value g.1.2 ∙ form-Long n in
    let bytes : (written_value v).1 ≡ long_encoding n = ap (λ (y : ℕ × List ℕ). y.1) form in
    let good : DecodesLeaf kinds.Long (written_value v).1 v = (n, subst (λ (b : List ℕ). IsSigned (2 ^ 64) b n) (sym bytes) (long_good n g.1.1), g.1.2) in
    record { kind = kinds.Long; named = ap kind_of_code g.0; coded = ap (λ (y : ℕ × List ℕ). y.0) form ∙ sym g.0; decodes = long _ good; held = long _ good }
leaf_shown Inner code v int long text (inr (inr g)) =
    let t = g.1.0 in
    let form : written_value v ≡ (8, count_bytes (length t) ++ t) = ap written_value g.1.2 ∙ form-Bytes t in
    let bytes : (written_value v).1 ≡ count_bytes (length t) ++ t = ap (λ (y : ℕ × List ℕ). y.1) form in
    let good : DecodesLeaf kinds.Bytes (written_value v).1 v = (t, subst (λ (b : List ℕ). IsText b t) (sym bytes) (text_good t g.1.1), g.1.2) in
    record { kind = kinds.Bytes; named = ap kind_of_code g.0; coded = ap (λ (y : ℕ × List ℕ). y.0) form ∙ sym g.0; decodes = text _ good; held = text _ good }

module _ {Inner : Kind → Grammar Value} {Can : ℕ → Value → Type 0} (shown : (code : ℕ) (v : Value) → Can code v → Shown Inner code v) where
  -- ---- lists

  items_good : (code : ℕ) (kind : Kind) (items : List Value) → kind_of_code code ≡ Some kind → AllByRecursion (Can code) items → InTurn (Inner kind) (flat_map (λ item. item.1) (map written_value items)) items
  items_good code kind [] named can = refl
  items_good code kind (v ∷ items) named can =
      let s = shown code v can.0 in
      let same : s.kind ≡ kind = (let both = sym s.named ∙ named in kind_is _ _ both) in
      ((written_value v).1, flat_map (λ item. item.1) (map written_value items), refl, subst (λ (k : Kind). Inner k (written_value v).1 v) same s.decodes, items_good code kind items named can.1)
    where
      kind_is : (a b : Kind) → Some a ≡ Some b → a ≡ b
      kind_is a b e = cc

  head_good : (code count : ℕ) → code < 16 → count < 2 ^ 31 → IsListHead code (list_head code count) count
  head_good code count small lt = elim (cases_lt count 15) [
    | inl low ↦
        let test : ltb count 15 ≡ true = lt-ltb count 15 low in
        let same : code % 16 ≡ code = omega arith in
        inl (low, rw (test, same) refl)
    | inr high ↦
        let test : ltb count 15 ≡ false = le-ltb _ _ high in
        let same : code % 16 ≡ code = omega arith in
        inr (count_bytes count, number_good (2 ^ 31) count lt (omega arith), rw (test, same) refl)
  ]

  -- the type of the items of a list that is written
  record ItemKind (code : ℕ) : Type 0 where
    pub small : code < 16
    pub kind : Kind
    pub named : kind_of_code code ≡ Some kind

  item_kind : (code : ℕ) → IsItemCode code → ItemKind code
  unfolding kind_of_code
  item_kind code (inl e) = record { small = omega arith; kind = kinds.Int; named = ap kind_of_code e }
  item_kind code (inr (inl e)) = record { small = omega arith; kind = kinds.Long; named = ap kind_of_code e }
  item_kind code (inr (inr (inl e))) = record { small = omega arith; kind = kinds.Bytes; named = ap kind_of_code e }
  item_kind code (inr (inr (inr e))) = record { small = omega arith; kind = kinds.Struct; named = ap kind_of_code e }

  list_good : (code : ℕ) (items : List Value) → IsItemCode code → length items < 2 ^ 31 → AllByRecursion (Can code) items
      → DecodesList Inner (list_head code (length (map written_value items)) ++ flat_map (λ item. item.1) (map written_value items)) code items
  list_good code items item lt can =
      let k = item_kind code item in
      let count : length items ≡ length (map written_value items) = sym (length-map items written_value) in
      let bytes = flat_map (λ item. item.1) (map written_value items) in
      record {
        head = list_head code (length (map written_value items));
        body = bytes;
        parts = refl;
        half = k.small;
        headed = subst (λ (n : ℕ). IsListHead code (list_head code n) (length items)) count (head_good code (length items) k.small lt);
        each = subst (λ (o : Option Kind). AreItems Inner o bytes items) (sym k.named) (items_good code k.kind items k.named can);
      }

  -- ---- structs

  gap_is : (last id : ℤ) (gap : ℕ) → gap < 16 → id ≡ last +ℤ pos gap → small_gap (id -ℤ last) ≡ gap
  gap_is last id gap lt is =
      let difference : id -ℤ last ≡ pos gap = omega (arith, ints, is) in
      let test : ltb gap 16 ≡ true = lt-ltb gap 16 lt in
      rw (difference, test) refl

  field_good : (last : ℤ) (f : Field) (gap code : ℕ) → 0 < gap → gap < 16 → f.id ≡ last +ℤ pos gap → FitsSigned w16 f.id → Shown Inner code f.value
      → IsField Inner last ((16 * small_gap (f.id -ℤ last) + (written_value f.value).0) ∷ (written_value f.value).1) f
  field_good last f gap code some lt is fits s =
      let byte : 16 * small_gap (f.id -ℤ last) + (written_value f.value).0 ≡ 16 * gap + code = rw (gap_is last f.id gap lt is, s.coded) refl in
      record {
        code = code;
        kind = s.kind;
        head = (16 * small_gap (f.id -ℤ last) + (written_value f.value).0) ∷ [];
        body = (written_value f.value).1;
        parts = refl;
        named = s.named;
        headed = inl (gap, some, lt, is, fits, ap (λ (n : ℕ). n ∷ []) byte);
        holds = s.held;
      }

  fields_good : (last : ℤ) (fields : List Field) → FieldsRise Can last fields → DecodesFields Inner last (struct_bytes last (map written_field fields)) fields
  fields_good last [] rise = refl
  fields_good last (f ∷ fields) rise =
      let s = shown rise.5.0 f.value rise.5.1 in
      let front = (16 * small_gap (f.id -ℤ last) + (written_value f.value).0) ∷ (written_value f.value).1 in
      let others = struct_bytes f.id (map written_field fields) in
      let parts : struct_bytes last (map written_field (f ∷ fields)) ≡ front ++ others = ap (λ (w : Written). struct_bytes last (w ∷ map written_field fields)) (form-field f) in
      (front, others, parts, field_good last f rise.0 rise.5.0 rise.1 rise.2 rise.3 rise.4 s, fields_good f.id fields rise.6)

-- ---- any depth

over_shown : {Inner : Kind → Grammar Value} {Can : ℕ → Value → Type 0} → ((code : ℕ) (v : Value) → Can code v → Shown Inner code v) → (code : ℕ) (v : Value) → IsWritableOver Can code v → Shown (DecodesOver Inner) code v
unfolding kind_of_code
over_shown {Inner} shown code v (inl g) = leaf_shown (DecodesOver Inner) code v (λ bytes h. h) (λ bytes h. h) (λ bytes h. h) g
over_shown {Inner} {Can} shown code v (inr (inl g)) = list g.0 g.1
  where
    list : code ≡ 9 → IsListOf Can v → Shown (DecodesOver Inner) code v
    list e h =
        let kind = h.0 in let items = h.1 in
        let bytes = list_head kind (length (map written_value items)) ++ flat_map (λ item. item.1) (map written_value items) in
        let form : written_value v ≡ (9, bytes) = ap written_value h.5 ∙ form-List kind items in
        let same : (written_value v).1 ≡ bytes = ap (λ (y : ℕ × List ℕ). y.1) form in
        let good : DecodesOver Inner kinds.List (written_value v).1 v = (kind, items, subst (λ (b : List ℕ). DecodesList Inner b kind items) (sym same) (list_good shown kind items h.2 h.3 h.4), h.5) in
        record { kind = kinds.List; named = ap kind_of_code e; coded = ap (λ (y : ℕ × List ℕ). y.0) form ∙ sym e; decodes = good; held = good }
over_shown {Inner} {Can} shown code v (inr (inr g)) = fields_of g.0 g.1
  where
    fields_of : code ≡ 12 → IsStructOf Can v → Shown (DecodesOver Inner) code v
    fields_of e h =
        let fields = h.0 in
        let bytes = struct_bytes (pos 0) (map written_field fields) in
        let form : written_value v ≡ (12, bytes) = ap written_value h.2 ∙ form-Struct fields in
        let same : (written_value v).1 ≡ bytes = ap (λ (y : ℕ × List ℕ). y.1) form in
        let good : DecodesOver Inner kinds.Struct (written_value v).1 v = (fields, subst (λ (b : List ℕ). DecodesFields Inner (pos 0) b fields) (sym same) (fields_good shown (pos 0) fields h.1), h.2) in
        record { kind = kinds.Struct; named = ap kind_of_code e; coded = ap (λ (y : ℕ × List ℕ). y.0) form ∙ sym e; decodes = good; held = good }

value_shown : (depth code : ℕ) (v : Value) → IsWritableValue depth code v → Shown (DecodesValue depth) code v
unfolding IsWritableValue DecodesValue
value_shown zero code v g = leaf_shown DecodesLeaf code v (λ bytes h. h) (λ bytes h. h) (λ bytes h. h) g
value_shown (suc depth) code v g = over_shown (value_shown depth) code v g

pub written_decodes : (fields : List Field) → IsWritable fields → Decodes (written fields) fields
written_decodes fields can = fields_good (value_shown 15) (pos 0) fields can
