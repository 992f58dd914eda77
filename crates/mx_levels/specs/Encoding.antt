-- Runs of levels, what they stand for, and their bytes.
use Rattle.std.specs.Prelude.{ℕ, zero, suc, ◌+◌, ◌*◌, ◌/◌, ◌%◌, Bool, true, false, if◌then◌else◌, ◌==◌, List, [], ◌∷◌, ◌++◌, length, replicate, flat_map}
use Rattle.mx_avro.specs.Encoding.{groups}

-- a level that is repeated so many times, or groups of eight levels, each of them a byte
pub data Run : Type 0 where
  Repeated : ℕ → Bool → Run
  Packed : List ℕ → Run

-- so many bits of a number, lowest first
unfoldable pub bits : ℕ → ℕ → List Bool
bits zero n = []
bits (suc more) n = (n % 2 == 1) ∷ bits more (n / 2)

-- the levels that a run stands for
abbrev pub run_levels : Run → List Bool
run_levels (Repeated count level) = replicate count level
run_levels (Packed bytes) = flat_map (bits 8) bytes

-- twice the count; twice the number of groups, and 1
abbrev pub header : Run → ℕ
header (Repeated count level) = 2 * count
header (Packed bytes) = 2 * length bytes + 1

-- what stands behind the header: the level as a byte, or the groups
abbrev pub body : Run → List ℕ
body (Repeated count level) = (if level then 1 else 0) ∷ []
body (Packed bytes) = bytes

-- seven bits per byte, lowest first, in at most ten bytes
abbrev pub varint : ℕ → List ℕ
varint n = groups 9 n

-- the header and the body
abbrev pub run_bytes : Run → List ℕ
run_bytes run = varint (header run) ++ body run

-- a level makes the run behind it longer where that repeats the same level, and else is a run of its own
abbrev pub joined : Bool → List Run → List Run
joined true (Repeated count true ∷ runs) = Repeated (count + 1) true ∷ runs
joined false (Repeated count false ∷ runs) = Repeated (count + 1) false ∷ runs
joined level runs = Repeated 1 level ∷ runs

-- repeated levels alone, and as few runs as there can be
abbrev pub runs_of : List Bool → List Run
runs_of [] = []
runs_of (level ∷ levels) = joined level (runs_of levels)

-- the form that is written
abbrev pub written : List Bool → List ℕ
written levels = flat_map run_bytes (runs_of levels)
