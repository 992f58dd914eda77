-- Reading from left to right, with the first broken rule and how many bytes are left from its place on.
use Rattle.std.specs.Prelude.{◌≡◌, ℕ, zero, suc, ◌+◌, ◌-◌, ◌*◌, ◌/◌, ◌%◌, ◌^◌, ◌==◌, nat_lt, ℤ, pos, negsuc, ◌+ℤ◌, Bool, if◌then◌else◌, List, [], ◌∷◌, length, take, drop, Option, Some, None, Result, Ok, Err}
use Rattle.mx_avro.specs.Decoding.{signed}
use Rattle.mx_thrift.specs.declared.error.ThriftError.{ThriftError}
use Rattle.mx_thrift.specs.declared.error.ThriftError.TheVariants as errors
use Rattle.mx_thrift.specs.declared.error.Rule.{Rule}
use Rattle.mx_thrift.specs.declared.error.Rule.TheVariants as rules
use Rattle.mx_thrift.specs.declared.error.Fault.{Fault}
use Rattle.mx_thrift.specs.declared.error.Fault.TheVariants as faults
use Rattle.mx_thrift.specs.declared.kind.Kind.{Kind}
use Rattle.mx_thrift.specs.declared.kind.Kind.TheVariants as kinds
use Rattle.mx_thrift.specs.declared.header.Header.{Header}
use Rattle.mx_thrift.specs.declared.value.Value.{Value}
use Rattle.mx_thrift.specs.declared.value.Value.TheVariants as values
use Rattle.mx_thrift.specs.declared.value.Field.{Field}
use Rattle.mx_thrift.specs.Types.{kind_of_code}
use Rattle.mx_thrift.specs.Grammar.{signed_byte}

-- what was read, or the broken rule
abbrev pub Read : Type 0 → Type 0
Read A = Result A (Rule × ℕ)

-- a value, and what stands behind it
abbrev pub Reader : Type 0 → Type 0
Reader A = List ℕ → Read (A × List ℕ)

-- the next step, where the first one did not fail
infixl 10 ◌>>=◌
abbrev pub ◌>>=◌ : {A B : Type 0} → Read A → (A → Read B) → Read B
(Ok x) >>= f = f x
(Err e) >>= f = Err e

-- the rule is broken where these bytes begin
abbrev pub broken : {A : Type 0} → Rule → List ℕ → Read A
broken rule bytes = Err (rule, length bytes)

-- what was read, as another value
abbrev pub mapped : {A B : Type 0} → (A → B) → Reader A → Reader B
mapped f read bytes = read bytes >>= λ x. Ok (f x.0, x.1)

-- one value behind the other
abbrev pub both : {A B : Type 0} → Reader A → Reader B → Reader (A × B)
both first second bytes = first bytes >>= λ x. second x.1 >>= λ y. Ok ((x.0, y.0), y.1)

-- so many values, one behind the other
unfoldable pub in_turn : {A : Type 0} → Reader A → ℕ → Reader (List A)
in_turn read zero bytes = Ok ([], bytes)
in_turn read (suc count) bytes = do
  first ← read bytes
  others ← in_turn read count first.1
  Ok (first.0 ∷ others.0, others.1)

-- one byte
abbrev pub byte_in : Reader ℕ
byte_in [] = Err (rules.Short, 0)
byte_in (b ∷ rest) = Ok (b, rest)

-- eight bytes
unfoldable pub eight_in : Reader (List ℕ)
eight_in bytes = if nat_lt (length bytes) 8 then broken rules.Short bytes else Ok (take 8 bytes, drop 8 bytes)

-- a byte of a number that begins where so many bytes are left, before what its other bytes stand for
abbrev pub joined : ℕ → ℕ × List ℕ → ℕ × List ℕ
joined b high = (b % 128 + 128 * high.0, high.1)

-- a number of at most so many bytes; a byte of 128 or more has others behind it
unfoldable pub groups_in : ℕ → ℕ → Reader ℕ
groups_in left zero bytes = Err (rules.Wide, left)
groups_in left (suc more) [] = Err (rules.Short, left)
groups_in left (suc more) (b ∷ rest) = if nat_lt b 128 then Ok (b, rest) else (groups_in left more rest >>= λ high. Ok (joined b high))

-- a number of at most ten bytes that is below a limit
unfoldable pub number_in : ℕ → Reader ℕ
number_in limit bytes = groups_in (length bytes) 10 bytes >>= λ n. if nat_lt n.0 limit then Ok n else broken rules.Wide bytes

-- a number with a sign
abbrev pub signed_in : ℕ → Reader ℤ
signed_in limit = mapped signed (number_in limit)

-- a length or a count
abbrev pub count_in : Reader ℕ
count_in = number_in (2 ^ 31)

-- a byte string breaks a rule as a whole
unfoldable pub text_in : Reader (List ℕ)
text_in bytes = count_in bytes >>= λ n. if nat_lt (length n.1) n.0 then broken rules.Short bytes else Ok (take n.0 n.1, drop n.0 n.1)

-- a value that holds no other
unfoldable pub leaf_in : Kind → Reader Value
leaf_in kinds.Flag = mapped (λ b. values.Flag (b == 1)) byte_in
leaf_in kinds.Byte = mapped (λ b. values.Byte (signed_byte b)) byte_in
leaf_in kinds.Short = mapped values.Short (signed_in (2 ^ 16))
leaf_in kinds.Int = mapped values.Int (signed_in (2 ^ 32))
leaf_in kinds.Long = mapped values.Long (signed_in (2 ^ 64))
leaf_in kinds.Double = mapped values.Double eight_in
leaf_in kinds.Bytes = mapped values.Bytes text_in
leaf_in kinds.List = broken rules.Deep
leaf_in kinds.Set = broken rules.Deep
leaf_in kinds.Map = broken rules.Deep
leaf_in kinds.Struct = broken rules.Deep

-- the type that a code names, in a byte from which on so many bytes are left
abbrev pub named_from : ℕ → Option Kind → Read Kind
named_from left (Some kind) = Ok kind
named_from left None = Err (rules.BadType, left)

-- the count of a list from the high half of its first byte
abbrev pub said_in : ℕ → Reader ℕ
said_in high bytes = if nat_lt high 15 then Ok (high, bytes) else count_in bytes

-- where a list's type is none its count is 0, or the bytes end in it
abbrev pub without : ℕ → Read (ℕ × List ℕ) → Read (List ℕ)
without left (Ok n) = if n.0 == 0 then Ok n.1 else Err (rules.BadType, left)
without left (Err (rules.Short, place)) = Err (rules.Short, place)
without left (Err (rules.Wide, place)) = Err (rules.BadType, left)
without left (Err (rules.BadType, place)) = Err (rules.BadType, left)
without left (Err (rules.Deep, place)) = Err (rules.BadType, left)

-- the items of a list behind its first byte
abbrev pub items_in : (Kind → Reader Value) → ℕ → ℕ → Option Kind → Reader (List Value)
items_in inner left high (Some kind) bytes = said_in high bytes >>= λ count. in_turn (inner kind) count.0 count.1
items_in inner left high None bytes = without left (said_in high bytes) >>= λ rest. Ok ([], rest)

-- a list or a set: the code of its type, and its items
unfoldable pub list_in : (Kind → Reader Value) → Reader (ℕ × List Value)
list_in inner bytes = byte_in bytes >>= λ b. items_in inner (length bytes) (b.0 / 16) (kind_of_code (b.0 % 16)) b.1 >>= λ items. Ok ((b.0 % 16, items.0), items.1)

-- the types of a map
abbrev pub types_in : Reader ((ℕ × ℕ) × (Kind × Kind))
types_in bytes = do
  b ← byte_in bytes
  key ← named_from (length bytes) (kind_of_code (b.0 / 16))
  value ← named_from (length bytes) (kind_of_code (b.0 % 16))
  Ok (((b.0 / 16, b.0 % 16), (key, value)), b.1)

-- so many pairs, behind their types
abbrev pub pairs_in : (Kind → Reader Value) → ℕ → Reader ((ℕ × ℕ) × List (Value × Value))
pairs_in inner count bytes = types_in bytes >>= λ types. in_turn (both (inner types.0.1.0) (inner types.0.1.1)) count types.1 >>= λ pairs. Ok ((types.0.0, pairs.0), pairs.1)

-- a map: the codes of its types, and its pairs
unfoldable pub map_in : (Kind → Reader Value) → Reader ((ℕ × ℕ) × List (Value × Value))
map_in inner bytes = count_in bytes >>= λ count. if count.0 == 0 then Ok (((0, 0), []), count.1) else pairs_in inner count.0 count.1

-- whether an id fits 16 bits
abbrev pub is_id : ℤ → Bool
is_id (pos n) = nat_lt n (2 ^ 15)
is_id (negsuc n) = nat_lt n (2 ^ 15)

-- a header whose byte names the type alone, and the id stands behind it
abbrev pub long_head_in : ℕ → ℕ → Reader (Option Header)
long_head_in left code bytes = do
  kind ← named_from left (kind_of_code code)
  id ← signed_in (2 ^ 16) bytes
  Ok (Some (record { code = code; kind = kind; id = id.0 }), id.1)

-- a header whose byte has the code and how much the id is above the one before it
abbrev pub short_head_in : ℕ → ℕ → ℤ → Reader (Option Header)
short_head_in left code id bytes =
    if is_id id then (named_from left (kind_of_code code) >>= λ kind. Ok (Some (record { code = code; kind = kind; id = id }), bytes))
    else Err (rules.Wide, left)

-- the header of a field, or the byte 0 that ends the struct
unfoldable pub head_in : ℤ → Reader (Option Header)
head_in last bytes = byte_in bytes >>= λ b.
    if b.0 == 0 then Ok (None, b.1)
    else if nat_lt b.0 16 then long_head_in (length bytes) b.0 b.1
    else short_head_in (length bytes) (b.0 % 16) (last +ℤ pos (b.0 / 16)) b.1

-- the value of a field; that of a truth value stands in the header
abbrev pub held_in : (Kind → Reader Value) → ℕ → Kind → Reader Value
held_in inner code kinds.Flag bytes = Ok (values.Flag (code == 1), bytes)
held_in inner code kind bytes = inner kind bytes

-- the field behind a header, if that is one
abbrev pub field_behind : (Kind → Reader Value) → Option Header → Reader (Option Field)
field_behind inner None bytes = Ok (None, bytes)
field_behind inner (Some head) bytes = held_in inner head.code head.kind bytes >>= λ value. Ok (Some (record { id = head.id; value = value.0 }), value.1)

-- the field behind the one with the last id, or none at the end of the struct
unfoldable pub field_in : (Kind → Reader Value) → ℤ → Reader (Option Field)
field_in inner last bytes = head_in last bytes >>= λ head. field_behind inner head.0 head.1

-- a field that was read, if one was, and the fields behind it
abbrev pub more_fields : (ℤ → Reader (List Field)) → Option Field → Reader (List Field)
more_fields more None bytes = Ok ([], bytes)
more_fields more (Some field) bytes = more field.id bytes >>= λ fields. Ok (field ∷ fields.0, fields.1)

-- fewer than so many fields, each of which has a byte at least
unfoldable pub fields_in : (Kind → Reader Value) → ℕ → ℤ → Reader (List Field)
fields_in inner zero last bytes = broken rules.Short bytes
fields_in inner (suc most) last bytes = field_in inner last bytes >>= λ field. more_fields (fields_in inner most) field.0 field.1

-- a struct
abbrev pub struct_in : (Kind → Reader Value) → Reader (List Field)
struct_in inner bytes = fields_in inner (length bytes) (pos 0) bytes

-- a value, where inner reads the values in it
unfoldable pub over_in : (Kind → Reader Value) → Kind → Reader Value
over_in inner kinds.List = mapped (λ x. values.List x.0 x.1) (list_in inner)
over_in inner kinds.Set = mapped (λ x. values.Set x.0 x.1) (list_in inner)
over_in inner kinds.Map = mapped (λ x. values.Map x.0.0 x.0.1 x.1) (map_in inner)
over_in inner kinds.Struct = mapped values.Struct (struct_in inner)
over_in inner kind = leaf_in kind

-- a value, with at most so many structs and containers inside each other
unfoldable pub value_in : ℕ → Kind → Reader Value
value_in zero = leaf_in
value_in (suc depth) = over_in (value_in depth)

-- a rule that is broken at a place
abbrev pub error_at : Rule → ℕ → ThriftError
error_at rules.Short at = errors.Short at
error_at rules.Wide at = errors.Wide at
error_at rules.BadType at = errors.BadType at
error_at rules.Deep at = errors.Deep at

-- what was read of the bytes from a place on, by places in all of the bytes
abbrev pub placed : {A : Type 0} → ℕ → ℕ → Read (A × List ℕ) → Result (A × ℕ) ThriftError
placed at len (Ok x) = Ok (x.0, at + (len - length x.1))
placed at len (Err e) = Err (error_at e.0 (at + (len - e.1)))

-- the struct that begins at a place, and the place behind it; or the first broken rule
unfoldable pub struct_at : List ℕ → ℕ → Result (List Field × ℕ) ThriftError
struct_at bytes at = placed at (length (drop at bytes)) (struct_in (value_in 15) (drop at bytes))

-- a failure is the broken rule that was read, unless memory ran out
abbrev pub Fails : {A : Type 0} → Fault → Read A → Type 0
Fails faults.NoMemory read = Unit {0}
Fails (faults.Broken rule left) read = read ≡ Err (rule, left)

-- what a function returned, seen by view, is what was read
abbrev pub Gives : {X A : Type 0} → (X → A) → Result X Fault → Read A → Type 0
Gives view (Ok x) read = read ≡ Ok (view x)
Gives view (Err e) read = Fails e read

-- an answer is what was read, unless memory ran out
abbrev pub Answers : {A : Type 0} → Result A ThriftError → Result A ThriftError → Type 0
Answers (Ok x) read = read ≡ Ok x
Answers (Err errors.NoMemory) read = Unit {0}
Answers (Err e) read = read ≡ Err e

-- the answer is this one, unless memory ran out
abbrev pub IsOnly : {A : Type 0} → A → Result A ThriftError → Type 0
IsOnly x (Ok y) = y ≡ x
IsOnly x (Err e) = e ≡ errors.NoMemory
