-- The form that is written, and what can be written.
use Rattle.std.specs.Prelude.{◌≡◌, ℕ, zero, suc, ◌+◌, ◌*◌, ◌%◌, ◌^◌, ◌<◌, nat_lt, if◌then◌else◌, ℤ, pos, negsuc, ◌+ℤ◌, ◌-ℤ◌, List, [], ◌∷◌, ◌++◌, length, map, flat_map, ◌⊎◌}
use Rattle.std.specs.Int.RustNames.{FitsSigned}
use Rattle.std.specs.Int.{w16, w32, w64}
use Rattle.std.specs.List.{AllByRecursion}
use Rattle.mx_avro.specs.Encoding.{groups, long_encoding}
use Rattle.mx_thrift.specs.declared.value.Value.{Value}
use Rattle.mx_thrift.specs.declared.value.Value.TheVariants as values
use Rattle.mx_thrift.specs.declared.value.Value.TheOpen.{Value-F, Field-F}
use Rattle.mx_thrift.specs.declared.value.Value.TheOpen as layers
use Rattle.mx_thrift.specs.declared.value.Value.TheFolds.{fold-Value, fold-Field}
use Rattle.mx_thrift.specs.declared.value.Field.{Field}

-- the type codes of the values that are written
abbrev pub layer_code : {A B : Type 0} → Value-F A B → ℕ
layer_code (layers.Int n) = 5
layer_code (layers.Long n) = 6
layer_code (layers.Bytes text) = 8
layer_code (layers.List kind items) = 9
layer_code (layers.Struct fields) = 12
layer_code other = 0

-- a length or a count, in the fewest bytes
abbrev pub count_bytes : ℕ → List ℕ
count_bytes n = groups 9 n

-- the count and the type, a number below 16, in one byte; or 15 and the type, and the count
abbrev pub list_head : ℕ → ℕ → List ℕ
list_head code count = if nat_lt count 15 then (16 * count + code % 16) ∷ [] else (240 + code % 16) ∷ count_bytes count

-- how much an id is above another, if that fits the short header
abbrev pub small_gap : ℤ → ℕ
small_gap (pos n) = if nat_lt n 16 then n else 0
small_gap (negsuc n) = 0

-- a field as it is written: its id, its type's code and the bytes of its value
pub record Written : Type 0 where
  pub id : ℤ
  pub code : ℕ
  pub bytes : List ℕ

-- the fields of a struct behind an id, each by its short header, and 0
abbrev pub struct_bytes : ℤ → List Written → List ℕ
struct_bytes last [] = 0 ∷ []
struct_bytes last (field ∷ fields) = (16 * small_gap (field.id -ℤ last) + field.code) ∷ (field.bytes ++ struct_bytes field.id fields)

-- the bytes of a value from those of the values in it
abbrev pub layer_bytes : Value-F (ℕ × List ℕ) Written → List ℕ
layer_bytes (layers.Int n) = long_encoding n
layer_bytes (layers.Long n) = long_encoding n
layer_bytes (layers.Bytes text) = count_bytes (length text) ++ text
layer_bytes (layers.List kind items) = list_head kind (length items) ++ flat_map (λ item. item.1) items
layer_bytes (layers.Struct fields) = struct_bytes (pos 0) fields
layer_bytes other = []

-- the type's code and the bytes
abbrev pub layer_form : Value-F (ℕ × List ℕ) Written → ℕ × List ℕ
layer_form layer = (layer_code layer, layer_bytes layer)

-- a field, from the code and the bytes of its value
abbrev pub field_form : Field-F (ℕ × List ℕ) Written → Written
field_form field = record { id = field.id; code = field.value.0; bytes = field.value.1 }

-- the type's code of a value, and its bytes
unfoldable pub written_value : Value → ℕ × List ℕ
written_value = fold-Value (ℕ × List ℕ) Written layer_form field_form

-- a field as it is written
unfoldable pub written_field : Field → Written
written_field = fold-Field (ℕ × List ℕ) Written layer_form field_form

-- the form that is written
abbrev pub written : List Field → List ℕ
written fields = struct_bytes (pos 0) (map written_field fields)

-- a number of 32 bits
abbrev pub IsInt : Value → Type 0
IsInt v = (n : ℤ) × FitsSigned w32 n × (v ≡ values.Int n)

-- a number of 64 bits
abbrev pub IsLong : Value → Type 0
IsLong v = (n : ℤ) × FitsSigned w64 n × (v ≡ values.Long n)

-- a byte string below 2 GiB
abbrev pub IsBytes : Value → Type 0
IsBytes v = (text : List ℕ) × (length text < 2 ^ 31) × (v ≡ values.Bytes text)

-- the type's code of an int, a long, a byte string or a struct
abbrev pub IsItemCode : ℕ → Type 0
IsItemCode code = (code ≡ 5) ⊎ ((code ≡ 6) ⊎ ((code ≡ 8) ⊎ (code ≡ 12)))

-- fewer than 2^31 items, all of the one type that is named
abbrev pub IsListOf : (ℕ → Value → Type 0) → Value → Type 0
IsListOf Inner v = (kind : ℕ) × (items : List Value) × IsItemCode kind × (length items < 2 ^ 31) × AllByRecursion (Inner kind) items × (v ≡ values.List kind items)

-- each id is 1 to 15 above the one before it, and the values can be written
abbrev pub FieldsRise : (ℕ → Value → Type 0) → ℤ → List Field → Type 0
FieldsRise Inner last [] = Unit {0}
FieldsRise Inner last (field ∷ fields) =
    (gap : ℕ) × (0 < gap) × (gap < 16) × (field.id ≡ last +ℤ pos gap) × FitsSigned w16 field.id × ((code : ℕ) × Inner code field.value) × FieldsRise Inner field.id fields

-- a struct, whose first id is from 1 to 15
abbrev pub IsStructOf : (ℕ → Value → Type 0) → Value → Type 0
IsStructOf Inner v = (fields : List Field) × FieldsRise Inner (pos 0) fields × (v ≡ values.Struct fields)

-- a value of the type with that code that can be written and holds no other
abbrev pub IsWritableLeaf : ℕ → Value → Type 0
IsWritableLeaf code v = ((code ≡ 5) × IsInt v) ⊎ (((code ≡ 6) × IsLong v) ⊎ ((code ≡ 8) × IsBytes v))

-- the same, or a list or a struct
abbrev pub IsWritableOver : (ℕ → Value → Type 0) → ℕ → Value → Type 0
IsWritableOver Inner code v = IsWritableLeaf code v ⊎ (((code ≡ 9) × IsListOf Inner v) ⊎ ((code ≡ 12) × IsStructOf Inner v))

-- a value that can be written, with at most so many lists and structs inside each other
unfoldable pub IsWritableValue : ℕ → ℕ → Value → Type 0
IsWritableValue zero = IsWritableLeaf
IsWritableValue (suc depth) = IsWritableOver (IsWritableValue depth)

-- a struct that can be written: its ids rise by 1 to 15, its values are of the five types, lengths are below 2^31, and
-- at most 16 lists and structs stand inside each other
abbrev pub IsWritable : List Field → Type 0
IsWritable = FieldsRise (IsWritableValue 15) (pos 0)
