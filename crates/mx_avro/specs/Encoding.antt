-- The bytes of a number and of a byte string.
use Rattle.std.specs.Prelude.{ℕ, zero, suc, ◌+◌, ◌*◌, ◌/◌, ◌%◌, ℤ, pos, negsuc, List, [], ◌∷◌, ◌++◌, length, nat_lt, if◌then◌else◌}

-- 0, -1, 1, -2 stand as 0, 1, 2, 3, and so on
abbrev pub zigzag : ℤ → ℕ
zigzag (pos n) = 2 * n
zigzag (negsuc n) = 2 * n + 1

-- seven bits per byte, lowest first; each byte but the last has 128 added, and at most so many bytes do
unfoldable pub groups : ℕ → ℕ → List ℕ
groups zero n = n ∷ []
groups (suc more) n = if nat_lt n 128 then n ∷ [] else (n % 128 + 128) ∷ groups more (n / 128)

-- ten bytes hold every number of 64 bits
unfoldable pub long_encoding : ℤ → List ℕ
long_encoding n = groups 9 (zigzag n)

-- a byte string is its length and its bytes
abbrev pub bytes_encoding : List ℕ → List ℕ
bytes_encoding bytes = long_encoding (pos (length bytes)) ++ bytes
