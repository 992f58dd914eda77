-- How long structs are.
use Rattle.std.proofs.Common.{◌≡◌, ℕ, ℤ, pos, ◌+◌, ◌-◌, ◌*◌, ◌^◌, Bool, true, false, List, [], ◌∷◌, ◌++◌, length, map, flat_map, min, length-append, refl, ap, ◌∙◌, arith}
use Rattle.std.proofs.lemmas.List.{length-map}
use Rattle.mx_avro.specs.Encoding.{groups, long_encoding}
use Rattle.mx_schema.specs.declared.column.Column.{Column}
use Rattle.mx_schema.specs.declared.column.ColumnKind.{ColumnKind}
use Rattle.mx_schema.specs.declared.column.ColumnKind.TheVariants as kinds
use Rattle.mx_thrift.specs.declared.value.Value.{Value}
use Rattle.mx_thrift.specs.declared.value.Value.TheVariants as values
use Rattle.mx_thrift.specs.declared.value.Field.{Field}
use Rattle.mx_thrift.specs.Encoding as thrift
use Rattle.mx_thrift.specs.Encoding.{Written, list_head, written_value, written_field}
use Rattle.mx_thrift.proofs.Forms.{form-Int, form-Long, form-Bytes, form-List, form-Struct, form-field}
use Rattle.mx_parquet.specs.Shape.{Struct, struct_bytes, type_code, repetition_code, converted, element, root_element, column_data, column_chunk, data_page_header, page_header}
use Rattle.mx_parquet.proofs.Numbers.{long_small, groups_small, long-cap}

-- how long a value is
abbrev pub value_len : Value → ℕ
value_len v = length (written_value v).1

-- a byte for each field, and one behind them
abbrev pub fields_len : List Field → ℕ
fields_len [] = 1
fields_len (f ∷ fs) = 1 + value_len f.value + fields_len fs

fields-len : (last : ℤ) (fs : List Field) → length (thrift.struct_bytes last (map written_field fs)) ≡ fields_len fs
fields-len last [] = refl
fields-len last (f ∷ fs) =
    let more = fields-len (written_field f).id fs in
    let bytes : length (written_field f).bytes ≡ value_len f.value = ap (λ (w : Written). length w.bytes) (form-field f) in
    omega (arith, more, bytes, length-append (written_field f).bytes (thrift.struct_bytes (written_field f).id (map written_field fs)))

pub struct-len : (s : Struct) → length (struct_bytes s) ≡ fields_len s
unfolding struct_bytes
struct-len s = fields-len (pos 0) s

-- what a value has
pub len-Int : (n : ℕ) → value_len (values.Int (pos n)) ≡ length (long_encoding (pos n))
len-Int n = ap (λ (x : ℕ × List ℕ). length x.1) (form-Int (pos n))

pub len-Long : (n : ℕ) → value_len (values.Long (pos n)) ≡ length (long_encoding (pos n))
len-Long n = ap (λ (x : ℕ × List ℕ). length x.1) (form-Long (pos n))

pub len-Bytes : (t : List ℕ) → value_len (values.Bytes t) ≡ length (groups 9 (length t)) + length t
len-Bytes t = ap (λ (x : ℕ × List ℕ). length x.1) (form-Bytes t) ∙ length-append (groups 9 (length t)) t

pub len-Struct : (s : Struct) → value_len (values.Struct s) ≡ fields_len s
len-Struct s = ap (λ (x : ℕ × List ℕ). length x.1) (form-Struct s) ∙ fields-len (pos 0) s

-- how long items are
abbrev pub items_len : List Value → ℕ
items_len [] = 0
items_len (v ∷ vs) = value_len v + items_len vs

items-len : (vs : List Value) → length (flat_map (λ (item : ℕ × List ℕ). item.1) (map written_value vs)) ≡ items_len vs
items-len [] = refl
items-len (v ∷ vs) = omega (arith, items-len vs, length-append (written_value v).1 (flat_map (λ (item : ℕ × List ℕ). item.1) (map written_value vs)))

pub len-List : (kind : ℕ) (vs : List Value) → value_len (values.List kind vs) ≡ length (list_head kind (length vs)) + items_len vs
len-List kind vs =
    ap (λ (x : ℕ × List ℕ). length x.1) (form-List kind vs)
    ∙ ap (λ (n : ℕ). length (list_head kind n ++ flat_map (λ (item : ℕ × List ℕ). item.1) (map written_value vs))) (length-map vs written_value)
    ∙ omega (arith, length-append (list_head kind (length vs)) (flat_map (λ (item : ℕ × List ℕ). item.1) (map written_value vs)), items-len vs)

-- ---- the structs of a file

pub header-len : (value_count size : ℕ) → length (struct_bytes (page_header value_count size)) ≡ 14 + length (long_encoding (pos value_count)) + 2 * length (long_encoding (pos size))
header-len value_count size =
    omega (arith, struct-len (page_header value_count size), len-Int 0, len-Int 3, len-Int size, len-Int value_count, len-Struct (data_page_header value_count), long_small 0 (omega arith), long_small 3 (omega arith))

pub root-len : (count : ℕ) → length (struct_bytes (root_element count)) ≡ 9 + length (long_encoding (pos count))
root-len count =
    omega (arith, struct-len (root_element count), len-Int count, len-Bytes (116 ∷ 97 ∷ 98 ∷ 108 ∷ 101 ∷ []), groups_small 9 5 (omega arith))

type-len : (kind : ColumnKind) → value_len (values.Int (pos (type_code kind))) ≡ 1
type-len kinds.Boolean = len-Int 0 ∙ long_small 0 (omega arith)
type-len kinds.Int32 = len-Int 1 ∙ long_small 1 (omega arith)
type-len kinds.Int64 = len-Int 2 ∙ long_small 2 (omega arith)
type-len kinds.Text = len-Int 6 ∙ long_small 6 (omega arith)

repetition-len : (nullable : Bool) → value_len (values.Int (pos (repetition_code nullable))) ≡ 1
repetition-len true = len-Int 1 ∙ long_small 1 (omega arith)
repetition-len false = len-Int 0 ∙ long_small 0 (omega arith)

converted-len : (kind : ColumnKind) → fields_len (converted kind) ≡ 1 + 2 * length (converted kind)
converted-len kinds.Boolean = refl
converted-len kinds.Int32 = refl
converted-len kinds.Int64 = refl
converted-len kinds.Text = omega (arith, len-Int 0, long_small 0 (omega arith))

pub element-len : (c : Column) → length (struct_bytes (element c)) ≡ 6 + 2 * length (converted c.kind) + (length (groups 9 (length c.name)) + length c.name)
element-len c =
    omega (arith, struct-len (element c), type-len c.kind, repetition-len c.nullable, len-Bytes c.name, converted-len c.kind)

pub column_chunk-len : (c : Column) (value_count size offset : ℕ) → length (struct_bytes (column_chunk c value_count size offset))
    ≡ 18 + 2 * length (long_encoding (pos offset)) + length (long_encoding (pos value_count)) + 2 * length (long_encoding (pos size)) + (length (groups 9 (length c.name)) + length c.name)
column_chunk-len c value_count size offset =
    let e = len-List 5 (values.Int (pos 0) ∷ values.Int (pos 3) ∷ []) in
    let p = len-List 8 (values.Bytes c.name ∷ []) in
    omega (
      arith,
      struct-len (column_chunk c value_count size offset),
      len-Struct (column_data c value_count size offset),
      len-Long offset,
      type-len c.kind,
      e,
      p,
      len-Bytes c.name,
      len-Int 0,
      len-Int 3,
      len-Long value_count,
      len-Long size,
      long_small 0 (omega arith),
      long_small 3 (omega arith),
    )

-- numbers of more than 64 bits make it no longer
pub column_chunk-cap : (c : Column) (value_count size offset : ℕ) → length (struct_bytes (column_chunk c value_count (min size (2 ^ 64 - 1)) (min offset (2 ^ 64 - 1)))) ≡ length (struct_bytes (column_chunk c value_count size offset))
column_chunk-cap c value_count size offset =
    omega (
      arith,
      column_chunk-len c value_count (min size (2 ^ 64 - 1)) (min offset (2 ^ 64 - 1)),
      column_chunk-len c value_count size offset,
      long-cap size,
      long-cap offset,
    )

pub header-cap : (value_count size : ℕ) → length (struct_bytes (page_header value_count (min size (2 ^ 64 - 1)))) ≡ length (struct_bytes (page_header value_count size))
header-cap value_count size = omega (arith, header-len value_count (min size (2 ^ 64 - 1)), header-len value_count size, long-cap size)
