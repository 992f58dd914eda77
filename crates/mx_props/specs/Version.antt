-- Which version a config gives.
use Rattle.std.specs.Prelude.{◌≡◌, ◌≢◌, ℕ, ◌+◌, ◌-◌, ◌*◌, ◌==◌, ◌&&◌, nat_lt, nat_le, List, length, take, drop, fold, codes, Option, Some, None, if◌then◌else◌, option_and_then, slice_get}
use Rattle.std.specs.List.{list_all, slice_split}
use Rattle.std.specs.Char.{is_ascii_digit}
use Rattle.std.specs.Str.{bytes_eq}

-- the number that decimal digits write
abbrev pub number_of : List ℕ → ℕ
number_of digits = fold (λ number digit. number * 10 + (digit - 48)) 0 digits

-- a version is a number of 1 to 9 digits
unfoldable pub version_number : List ℕ → Option ℕ
version_number digits =
    if nat_lt 0 (length digits) && (nat_le (length digits) 9 && list_all is_ascii_digit digits) then Some (number_of digits) else None

-- the version that a line gives behind its key
unfoldable pub version_of : List ℕ → Option ℕ
version_of line = if bytes_eq (take 21 line) (codes "hoodie.table.version=") then version_number (drop 21 line) else None

-- the version that the third line gives, whether a newline stands behind it or not
abbrev pub version_in : List ℕ → Option ℕ
version_in bytes = option_and_then version_of (slice_get (slice_split (λ byte. byte == 10) bytes) 2)

-- the third line gives a version that is not 6
pub record GivesAnother (bytes : List ℕ) (found : ℕ) : Type 0 where
  pub gives : version_in bytes ≡ Some found
  pub other : found ≢ 6
