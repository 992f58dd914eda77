-- Which bytes stand for which value.
use Rattle.std.specs.Prelude.{◌≡◌, ℕ, zero, suc, ◌+◌, ◌-◌, ◌*◌, ◌%◌, ◌^◌, ◌<◌, ◌≤◌, ◌==◌, ℤ, pos, negsuc, ◌+ℤ◌, nat_lt, if◌then◌else◌, List, [], ◌∷◌, ◌++◌, length, Option, Some, None, ◌⊎◌}
use Rattle.std.specs.Int.RustNames.{FitsSigned}
use Rattle.std.specs.Int.{w16}
use Rattle.mx_avro.specs.Encoding.{zigzag}
use Rattle.mx_thrift.specs.declared.kind.Kind.{Kind}
use Rattle.mx_thrift.specs.declared.kind.Kind.TheVariants as kinds
use Rattle.mx_thrift.specs.declared.value.Value.{Value}
use Rattle.mx_thrift.specs.declared.value.Value.TheVariants as values
use Rattle.mx_thrift.specs.declared.value.Field.{Field}
use Rattle.mx_thrift.specs.Types.{kind_of_code}

-- which bytes stand for a value of a type
abbrev pub Grammar : Type 0 → Type 1
Grammar A = List ℕ → A → Type 0

-- each byte but the last has its highest bit set
abbrev pub IsGroups : List ℕ → Type 0
IsGroups [] = ⊥
IsGroups (b ∷ []) = b < 128
IsGroups (b ∷ c ∷ bytes) = (128 ≤ b) × IsGroups (c ∷ bytes)

-- seven bits in each byte, the lowest first
abbrev pub groups_value : List ℕ → ℕ
groups_value [] = 0
groups_value (b ∷ bytes) = b % 128 + 128 * groups_value bytes

-- a number below a limit, in ten bytes at most and not always the fewest
pub record IsNumber (limit : ℕ) (bytes : List ℕ) (n : ℕ) : Type 0 where
  pub groups : IsGroups bytes
  pub most : length bytes ≤ 10
  pub value : n ≡ groups_value bytes
  pub below : n < limit

-- a number with a sign, which stands as its zigzag
abbrev pub IsSigned : ℕ → Grammar ℤ
IsSigned limit bytes n = IsNumber limit bytes (zigzag n)

-- a length or a count
abbrev pub IsCount : Grammar ℕ
IsCount = IsNumber (2 ^ 31)

-- a byte string is its length and its bytes
pub record IsText (bytes text : List ℕ) : Type 0 where
  pub front : List ℕ
  pub len : IsCount front (length text)
  pub parts : bytes ≡ front ++ text

-- a byte with its highest bit set stands for a number below 0
abbrev pub signed_byte : ℕ → ℤ
signed_byte b = if nat_lt b 128 then pos b else negsuc (255 - b)

-- a value that holds no other; a truth value is a byte, where all but 1 is false
abbrev pub DecodesLeaf : Kind → Grammar Value
DecodesLeaf kinds.Flag bytes v = (b : ℕ) × (bytes ≡ b ∷ []) × (v ≡ values.Flag (b == 1))
DecodesLeaf kinds.Byte bytes v = (b : ℕ) × (bytes ≡ b ∷ []) × (v ≡ values.Byte (signed_byte b))
DecodesLeaf kinds.Short bytes v = (n : ℤ) × IsSigned (2 ^ 16) bytes n × (v ≡ values.Short n)
DecodesLeaf kinds.Int bytes v = (n : ℤ) × IsSigned (2 ^ 32) bytes n × (v ≡ values.Int n)
DecodesLeaf kinds.Long bytes v = (n : ℤ) × IsSigned (2 ^ 64) bytes n × (v ≡ values.Long n)
DecodesLeaf kinds.Double bytes v = (length bytes ≡ 8) × (v ≡ values.Double bytes)
DecodesLeaf kinds.Bytes bytes v = (text : List ℕ) × IsText bytes text × (v ≡ values.Bytes text)
DecodesLeaf kinds.List bytes v = ⊥
DecodesLeaf kinds.Set bytes v = ⊥
DecodesLeaf kinds.Map bytes v = ⊥
DecodesLeaf kinds.Struct bytes v = ⊥

-- values one behind the other
abbrev pub InTurn : {A : Type 0} → Grammar A → Grammar (List A)
InTurn Decodes bytes [] = bytes ≡ []
InTurn Decodes bytes (x ∷ xs) = (front rest : List ℕ) × (bytes ≡ front ++ rest) × Decodes front x × InTurn Decodes rest xs

-- a value and another behind it
pub record InPairs {A B : Type 0} (First : Grammar A) (Second : Grammar B) (bytes : List ℕ) (x : A × B) : Type 0 where
  pub front : List ℕ
  pub rest : List ℕ
  pub parts : bytes ≡ front ++ rest
  pub first : First front x.0
  pub second : Second rest x.1

-- the count in the high half of the byte that names the type, or 15 there and the count behind it
abbrev pub IsListHead : ℕ → List ℕ → ℕ → Type 0
IsListHead code bytes count =
    ((count < 15) × (bytes ≡ (16 * count + code) ∷ []))
    ⊎ ((behind : List ℕ) × IsCount behind count × (bytes ≡ (240 + code) ∷ behind))

-- items of the type that a code names; where it names none there are no items
abbrev pub AreItems : (Kind → Grammar Value) → Option Kind → Grammar (List Value)
AreItems Inner (Some kind) bytes items = InTurn (Inner kind) bytes items
AreItems Inner None bytes items = (bytes ≡ []) × (items ≡ [])

-- a list or a set
pub record DecodesList (Inner : Kind → Grammar Value) (bytes : List ℕ) (code : ℕ) (items : List Value) : Type 0 where
  pub head : List ℕ
  pub body : List ℕ
  pub parts : bytes ≡ head ++ body
  pub half : code < 16
  pub headed : IsListHead code head (length items)
  pub each : AreItems Inner (kind_of_code code) body items

-- the pairs of a map that is not empty, behind one byte for the types of keys and values
pub record DecodesPairs (Inner : Kind → Grammar Value) (bytes : List ℕ) (codes : ℕ × ℕ) (pairs : List (Value × Value)) : Type 0 where
  pub body : List ℕ
  pub key_kind : Kind
  pub value_kind : Kind
  pub parts : bytes ≡ (16 * codes.0 + codes.1) ∷ body
  pub key : kind_of_code codes.0 ≡ Some key_kind
  pub value : kind_of_code codes.1 ≡ Some value_kind
  pub each : InTurn (InPairs (Inner key_kind) (Inner value_kind)) body pairs

-- what stands behind the count of a map; an empty one has no types
abbrev pub DecodesPairsIf : (Kind → Grammar Value) → List ℕ → ℕ × ℕ → List (Value × Value) → Type 0
DecodesPairsIf Inner bytes codes [] = (bytes ≡ []) × (codes ≡ (0, 0))
DecodesPairsIf Inner bytes codes (pair ∷ pairs) = DecodesPairs Inner bytes codes (pair ∷ pairs)

-- a map is its count and its pairs
pub record DecodesMap (Inner : Kind → Grammar Value) (bytes : List ℕ) (codes : ℕ × ℕ) (pairs : List (Value × Value)) : Type 0 where
  pub front : List ℕ
  pub rest : List ℕ
  pub parts : bytes ≡ front ++ rest
  pub count : IsCount front (length pairs)
  pub pairs_behind : DecodesPairsIf Inner rest codes pairs

-- the id as what it is above the one before, in the high half of the byte that names the type; or 0 there, and the id
abbrev pub IsFieldHead : ℤ → ℕ → List ℕ → ℤ → Type 0
IsFieldHead last code bytes id =
    ((gap : ℕ) × (0 < gap) × (gap < 16) × (id ≡ last +ℤ pos gap) × FitsSigned w16 id × (bytes ≡ (16 * gap + code) ∷ []))
    ⊎ ((behind : List ℕ) × IsSigned (2 ^ 16) behind id × (bytes ≡ code ∷ behind))

-- the value of a field; of a truth value the code says which it is, and no byte stands for it
abbrev pub DecodesField : (Kind → Grammar Value) → ℕ → Kind → Grammar Value
DecodesField Inner code kinds.Flag bytes v = (bytes ≡ []) × (v ≡ values.Flag (code == 1))
DecodesField Inner code kind bytes v = Inner kind bytes v

-- a field behind the id of the one before it
pub record IsField (Inner : Kind → Grammar Value) (last : ℤ) (bytes : List ℕ) (field : Field) : Type 0 where
  pub code : ℕ
  pub kind : Kind
  pub head : List ℕ
  pub body : List ℕ
  pub parts : bytes ≡ head ++ body
  pub named : kind_of_code code ≡ Some kind
  pub headed : IsFieldHead last code head field.id
  pub holds : DecodesField Inner code kind body field.value

-- the fields of a struct, which the byte 0 ends
abbrev pub DecodesFields : (Kind → Grammar Value) → ℤ → Grammar (List Field)
DecodesFields Inner last bytes [] = bytes ≡ 0 ∷ []
DecodesFields Inner last bytes (field ∷ fields) = (front rest : List ℕ) × (bytes ≡ front ++ rest) × IsField Inner last front field × DecodesFields Inner field.id rest fields

-- a value, with values of the inner grammar in it
abbrev pub DecodesOver : (Kind → Grammar Value) → Kind → Grammar Value
DecodesOver Inner kinds.List bytes v = (code : ℕ) × (items : List Value) × DecodesList Inner bytes code items × (v ≡ values.List code items)
DecodesOver Inner kinds.Set bytes v = (code : ℕ) × (items : List Value) × DecodesList Inner bytes code items × (v ≡ values.Set code items)
DecodesOver Inner kinds.Map bytes v = (codes : ℕ × ℕ) × (pairs : List (Value × Value)) × DecodesMap Inner bytes codes pairs × (v ≡ values.Map codes.0 codes.1 pairs)
DecodesOver Inner kinds.Struct bytes v = (fields : List Field) × DecodesFields Inner (pos 0) bytes fields × (v ≡ values.Struct fields)
DecodesOver Inner kind bytes v = DecodesLeaf kind bytes v

-- a value of a type, with at most so many structs and containers inside each other
unfoldable pub DecodesValue : ℕ → Kind → Grammar Value
DecodesValue zero = DecodesLeaf
DecodesValue (suc depth) = DecodesOver (DecodesValue depth)

-- all of the bytes are a struct of these fields, with at most 16 structs and containers inside each other
abbrev pub Decodes : Grammar (List Field)
Decodes = DecodesFields (DecodesValue 15) (pos 0)
