-- What the structs of a file say, field by field, with the first flaw.
use Rattle.std.specs.Prelude.{◌≡◌, ℕ, ℤ, pos, negsuc, Bool, true, false, if◌then◌else◌, List, [], ◌∷◌, ◌==◌, Option, Some, None, Result, Ok, Err}
use Rattle.mx_thrift.specs.declared.value.Value.{Value}
use Rattle.mx_thrift.specs.declared.value.Value.TheViews.{out-Value}
use Rattle.mx_thrift.specs.declared.value.Value.TheOpen.{Value-F}
use Rattle.mx_thrift.specs.declared.value.Value.TheOpen as layers
use Rattle.mx_thrift.specs.declared.value.Field.{Field}
use Rattle.mx_parquet.specs.declared.error.Feature.{Feature}
use Rattle.mx_parquet.specs.declared.error.Flaw.{Flaw}
use Rattle.mx_parquet.specs.declared.error.Flaw.TheVariants as flaws
use Rattle.mx_parquet.specs.declared.error.Failure.{Failure}
use Rattle.mx_parquet.specs.declared.error.Failure.TheVariants as failures
use Rattle.mx_parquet.specs.declared.error.ParquetError.{ParquetError}
use Rattle.mx_parquet.specs.declared.error.ParquetError.TheVariants as errors
use Rattle.mx_parquet.specs.Decoding.{values_of}
use Rattle.mx_parquet.specs.Shape.{Struct}

-- what was read, or the first flaw
abbrev pub Read : Type 0 → Type 0
Read A = Result A Flaw

-- the next step, where the first one did not fail
infixl 10 ◌>>=◌
abbrev pub ◌>>=◌ : {A B : Type 0} → Read A → (A → Read B) → Read B
(Ok x) >>= f = f x
(Err e) >>= f = Err e

-- what a function answered, seen by view, is what was read
abbrev pub Gives : {X Y : Type 0} → (X → Y) → Result X Flaw → Read Y → Type 0
Gives view (Ok x) read = read ≡ Ok (view x)
Gives view (Err e) read = read ≡ Err e

-- the flaw that was read, unless memory ran out
abbrev pub Fails : {Y : Type 0} → Failure → Read Y → Type 0
Fails failures.NoMemory read = Unit {0}
Fails (failures.Flawed flaw) read = read ≡ Err flaw

-- the answer is what was read, unless memory ran out
abbrev pub Answers : {Y : Type 0} → Result Y Failure → Read Y → Type 0
Answers (Ok x) read = read ≡ Ok x
Answers (Err e) read = Fails e read

-- a flaw of the struct that begins at a place
abbrev pub placed_flaw : ℕ → Flaw → ParquetError
placed_flaw at flaws.Bad = errors.BadParquet at
placed_flaw at (flaws.Unsupported what) = errors.Unsupported what

-- a failure at a struct that begins at a place
abbrev pub placed_failure : ℕ → Failure → ParquetError
placed_failure at failures.NoMemory = errors.NoMemory
placed_failure at (failures.Flawed flaw) = placed_flaw at flaw

-- ---- values of a kind

-- what should stand here does not
abbrev pub bad : {A : Type 0} → Read A
bad = Err flaws.Bad

-- this is not supported
abbrev pub unsupported : {A : Type 0} → Feature → Read A
unsupported what = Err (flaws.Unsupported what)

-- a value, with the values in it as they are
abbrev pub Layer : Type 0
Layer = Value-F Value Field

-- a number of 32 bits
abbrev pub int_layer : Layer → Read ℤ
int_layer (layers.Int n) = Ok n
int_layer other = bad

-- a number of 64 bits
abbrev pub long_layer : Layer → Read ℤ
long_layer (layers.Long n) = Ok n
long_layer other = bad

-- a byte string
abbrev pub bytes_layer : Layer → Read (List ℕ)
bytes_layer (layers.Bytes bytes) = Ok bytes
bytes_layer other = bad

-- a struct
abbrev pub struct_layer : Layer → Read Struct
struct_layer (layers.Struct fields) = Ok fields
struct_layer other = bad

-- a list of items of the type that a code names
abbrev pub list_layer : ℕ → Layer → Read (List Value)
list_layer code (layers.List kind items) = if kind == code then Ok items else bad
list_layer code other = bad

-- a number of 32 bits
unfoldable pub as_int : Value → Read ℤ
as_int value = int_layer (out-Value value)

-- a number of 64 bits
unfoldable pub as_long : Value → Read ℤ
as_long value = long_layer (out-Value value)

-- a byte string
unfoldable pub as_bytes : Value → Read (List ℕ)
as_bytes value = bytes_layer (out-Value value)

-- a struct
unfoldable pub as_struct : Value → Read Struct
as_struct value = struct_layer (out-Value value)

-- a list of items of the type that a code names
unfoldable pub as_list : ℕ → Value → Read (List Value)
as_list code value = list_layer code (out-Value value)

-- ---- fields

-- a value that stands at most once
abbrev pub at_most_once : List Value → Read (Option Value)
at_most_once [] = Ok None
at_most_once (value ∷ []) = Ok (Some value)
at_most_once (value ∷ other ∷ more) = bad

-- a value that has to stand
abbrev pub needed : Option Value → Read Value
needed None = bad
needed (Some value) = Ok value

-- the value under a number
abbrev pub value_in : ℕ → Struct → Read Value
value_in id fields = at_most_once (values_of id fields) >>= needed

-- the number of 32 bits under a number
unfoldable pub int_in : ℕ → Struct → Read ℤ
int_in id fields = value_in id fields >>= as_int

-- the number of 64 bits under a number
unfoldable pub long_in : ℕ → Struct → Read ℤ
long_in id fields = value_in id fields >>= as_long

-- the byte string under a number
unfoldable pub bytes_in : ℕ → Struct → Read (List ℕ)
bytes_in id fields = value_in id fields >>= as_bytes

-- the struct under a number
unfoldable pub struct_in : ℕ → Struct → Read Struct
struct_in id fields = value_in id fields >>= as_struct

-- the list under a number
unfoldable pub list_in : ℕ → ℕ → Struct → Read (List Value)
list_in code id fields = value_in id fields >>= as_list code

-- a number of 32 bits, if one stands
abbrev pub int_if : Option Value → Read (Option ℤ)
int_if None = Ok None
int_if (Some value) = as_int value >>= λ n. Ok (Some n)

-- the number of 32 bits under a number, if it stands
unfoldable pub maybe_int_in : ℕ → Struct → Read (Option ℤ)
maybe_int_in id fields = at_most_once (values_of id fields) >>= int_if

-- whether nothing stands
abbrev pub is_missing : List Value → Bool
is_missing [] = true
is_missing (value ∷ more) = false

-- a count, which is not below 0
abbrev pub count_of : ℤ → Read ℕ
count_of (pos n) = Ok n
count_of (negsuc n) = bad

-- each of a list in turn, with the first flaw
unfoldable pub each_in : {A B : Type 0} → (A → Read B) → List A → Read (List B)
each_in read [] = Ok []
each_in read (x ∷ xs) = read x >>= λ y. each_in read xs >>= λ ys. Ok (y ∷ ys)
