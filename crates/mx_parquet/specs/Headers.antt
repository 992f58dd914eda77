-- What the header of a page says.
use Rattle.std.specs.Prelude.{ℕ, ℤ, if◌then◌else◌, Ok, Err}
use Rattle.mx_parquet.specs.declared.error.Feature.TheVariants as features
use Rattle.mx_parquet.specs.declared.error.Flaw.{Flaw}
use Rattle.mx_parquet.specs.declared.error.Flaw.TheVariants as flaws
use Rattle.mx_parquet.specs.declared.header.PageSize.{PageSize}
use Rattle.mx_parquet.specs.Decoding.{is_id}
use Rattle.mx_parquet.specs.Shape.{Struct}
use Rattle.mx_parquet.specs.Reading.{Read, ◌>>=◌, int_in, struct_in, count_of}
use Rattle.mx_parquet.specs.Footer.{counted}

-- a number that has to be this one, and what is wrong where it is not
abbrev pub needed_number : ℕ → Flaw → ℤ → Read ℤ
needed_number wanted flaw n = if is_id wanted n then Ok n else Err flaw

-- how many values a data page of so many bytes has: in PLAIN, with levels in RLE
unfoldable pub data_page_in : ℕ → Struct → Read PageSize
data_page_in size inner = do
  said ← int_in 1 inner
  value_count ← count_of said
  encoding ← int_in 2 inner
  plain ← needed_number 0 (flaws.Unsupported features.Encoding) encoding
  definition ← int_in 3 inner
  levels ← needed_number 3 flaws.Bad definition
  repetition ← int_in 4 inner
  repeated ← needed_number 3 flaws.Bad repetition
  Ok (record { value_count = value_count; size = size })

-- how many values and bytes a page has
unfoldable pub header_in : Struct → Read PageSize
header_in fields = do
  kind ← int_in 1 fields
  data_page ← needed_number 0 (flaws.Unsupported features.Page) kind
  said ← int_in 2 fields
  size ← count_of said
  compressed ← int_in 3 fields
  same ← counted size compressed
  inner ← struct_in 5 fields
  data_page_in size inner
