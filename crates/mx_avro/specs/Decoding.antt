-- Reading from left to right, with the first fault that is met.
use Rattle.std.specs.Prelude.{◌≡◌, ℕ, zero, suc, ◌+◌, ◌-◌, ◌*◌, ◌/◌, ◌%◌, ℤ, pos, negsuc, List, [], ◌∷◌, ◌++◌, length, take, drop, ◌≤◌, Result, Ok, Err, Bool, ◌&&◌, ◌||◌, nat_lt, ◌==◌, if◌then◌else◌}
use Rattle.std.specs.List.{AllByRecursion}
use Rattle.mx_avro.specs.Encoding.{bytes_encoding}
use Rattle.mx_avro.specs.declared.error.AvroError.{AvroError}
use Rattle.mx_avro.specs.declared.error.AvroError.TheVariants.{Short, Wide, Negative}

-- from a place on the bytes are this text, which ends at another place
abbrev pub StandsAt : List ℕ → ℕ → List ℕ → ℕ → Type 0
StandsAt bytes at text end = (end ≡ at + length text) × (drop at bytes ≡ text ++ drop end bytes)

-- the bytes end before a number does: each of them has more behind it, and a number has at most ten
abbrev pub IsCut : List ℕ → Type 0
IsCut bytes = (length bytes ≤ 9) × AllByRecursion (λ byte. 128 ≤ byte) bytes

-- a byte string stands at a place, and its own bytes lie between two others
pub record HoldsBytes (bytes : List ℕ) (at start end : ℕ) : Type 0 where
  pub ordered : start ≤ end
  pub within : end ≤ length bytes
  pub stands : StandsAt bytes at (bytes_encoding (take (end - start) (drop start bytes))) end

-- the number that a zigzag stands for
abbrev pub signed : ℕ → ℤ
signed n = if n % 2 == 0 then pos (n / 2) else negsuc (n / 2)

-- a byte that has more behind it, before the number of the bytes behind: that one is not 0, or it would not be needed
abbrev pub joined : ℕ → ℕ → Result (ℕ × ℕ) AvroError → Result (ℕ × ℕ) AvroError
joined at byte (Ok high) = if high.0 == 0 then Err (Wide at) else Ok (byte - 128 + 128 * high.0, high.1 + 1)
joined at byte (Err e) = Err e

-- the number in front and how many bytes it has; at most so many come before its last, and the tenth byte is one bit
unfoldable pub groups_at : ℕ → ℕ → List ℕ → Result (ℕ × ℕ) AvroError
groups_at at more [] = Err (Short at)
groups_at at zero (byte ∷ rest) = if nat_lt byte 2 then Ok (byte, 1) else Err (Wide at)
groups_at at (suc more) (byte ∷ rest) = if nat_lt byte 128 then Ok (byte, 1) else joined at byte (groups_at at more rest)

-- a byte behind so many others passes 64 bits, or is 0 and so not needed
abbrev pub widens : ℕ → ℕ → Bool
widens count byte = (count == 9 && nat_lt 1 byte) || (nat_lt 0 count && byte == 0)

-- a number that begins at a place, and the place behind it
abbrev pub placed : ℕ → Result (ℕ × ℕ) AvroError → Result (ℤ × ℕ) AvroError
placed at (Ok n) = Ok (signed n.0, at + n.1)
placed at (Err e) = Err e

-- the long at a place, and the place behind it
unfoldable pub long_at : List ℕ → ℕ → Result (ℤ × ℕ) AvroError
long_at bytes at = placed at (groups_at at 9 (drop at bytes))

-- where so many bytes end that begin at a place
abbrev pub ended : List ℕ → ℕ → ℤ → ℕ → Result (ℕ × ℕ) AvroError
ended bytes at (pos len) start = if nat_lt (length bytes) (start + len) then Err (Short at) else Ok (start, start + len)
ended bytes at (negsuc n) start = Err (Negative at)

-- the bytes of which that number is the length
abbrev pub ended_of : List ℕ → ℕ → Result (ℤ × ℕ) AvroError → Result (ℕ × ℕ) AvroError
ended_of bytes at (Ok n) = ended bytes at n.0 n.1
ended_of bytes at (Err e) = Err e

-- where the bytes of the byte string at a place begin and end
abbrev pub bytes_at : List ℕ → ℕ → Result (ℕ × ℕ) AvroError
bytes_at bytes at = ended_of bytes at (long_at bytes at)
