-- From the bytes of a file to what its footer says, with the first broken rule and its place.
use Rattle.std.specs.Prelude.{◌≡◌, ℕ, ◌+◌, ◌-◌, ◌==◌, ◌||◌, nat_eq, nat_lt, nat_le, Bool, if◌then◌else◌, List, length, take, drop, Result, Ok, Err}
use Rattle.std.specs.Int.{w32, from_le_bytes}
use lib.Pointwise.{pointwise}
use Rattle.mx_thrift.specs.declared.error.ThriftError.{ThriftError}
use Rattle.mx_thrift.specs.declared.error.ThriftError.TheVariants as thrift
use Rattle.mx_thrift.specs.Decoding.{struct_at}
use Rattle.mx_parquet.specs.declared.error.ParquetError.{ParquetError}
use Rattle.mx_parquet.specs.declared.error.ParquetError.TheVariants as errors
use Rattle.mx_parquet.specs.declared.layout.Layout.{Layout}
use Rattle.mx_parquet.specs.Encoding.{magic}
use Rattle.mx_parquet.specs.Shape.{Struct}
use Rattle.mx_parquet.specs.Reading.{Read, placed_flaw}
use Rattle.mx_parquet.specs.Footer.{layout_in}

-- the answer is what was read, unless memory ran out
abbrev pub AnswersAt : {A : Type 0} → Result A ParquetError → Result A ParquetError → Type 0
AnswersAt (Ok x) read = read ≡ Ok x
AnswersAt (Err errors.NoMemory) read = Unit {0}
AnswersAt (Err e) read = read ≡ Err e

-- whether bytes are the magic
abbrev pub is_magic : List ℕ → Bool
is_magic bytes = pointwise nat_eq bytes magic

-- the length that stands in front of the last magic
abbrev pub said_length : List ℕ → ℕ
said_length file = from_le_bytes w32 (drop (length file - 8) (take (length file - 4) file))

-- where the footer begins; or the place of a length of the file, a magic or a length of the footer that can't be
unfoldable pub footer_place : List ℕ → Result ℕ ℕ
footer_place file =
    if nat_lt (length file) 12 || nat_lt 4_194_304 (length file) then Err 0
    else if is_magic (take 4 file) then
    (if is_magic (drop (length file - 4) file) then
    (if nat_le (said_length file + 12) (length file) then Ok (length file - 8 - said_length file) else Err (length file - 8))
    else Err (length file - 4))
    else Err 0

-- a struct that could not be read
abbrev pub thrift_error : ThriftError → ParquetError
thrift_error (thrift.Short at) = errors.BadParquet at
thrift_error (thrift.Wide at) = errors.BadParquet at
thrift_error (thrift.BadType at) = errors.BadParquet at
thrift_error (thrift.Deep at) = errors.BadParquet at
thrift_error thrift.NoMemory = errors.NoMemory

-- a struct that has to fill the bytes up to an end
abbrev pub filling : ℕ → Result (Struct × ℕ) ThriftError → Result Struct ParquetError
filling end (Ok x) = if x.1 == end then Ok x.0 else Err (errors.BadParquet x.1)
filling end (Err e) = Err (thrift_error e)

-- the struct that fills the bytes from a place on
unfoldable pub struct_from : List ℕ → ℕ → Result Struct ParquetError
struct_from bytes at = filling (length bytes) (struct_at bytes at)

-- what was read of the struct at a place
abbrev pub judged : {A : Type 0} → ℕ → Read A → Result A ParquetError
judged at (Ok x) = Ok x
judged at (Err flaw) = Err (placed_flaw at flaw)

-- what a struct says that begins at a place of a file of a length
abbrev pub said_at : ℕ → ℕ → Result Struct ParquetError → Result Layout ParquetError
said_at len at (Ok fields) = judged at (layout_in len fields)
said_at len at (Err e) = Err e

-- what the footer says that begins at a place
abbrev pub layout_at : List ℕ → Result ℕ ℕ → Result Layout ParquetError
layout_at file (Ok at) = said_at (length file) at (struct_from (take (length file - 8) file) at)
layout_at file (Err at) = Err (errors.BadParquet at)

-- what the footer of a file says
unfoldable pub file_layout : List ℕ → Result Layout ParquetError
file_layout file = layout_at file (footer_place file)
