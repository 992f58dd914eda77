-- The bytes of a page: the levels of its column, where it allows nulls, and the cells that are not null.
use Rattle.std.specs.Prelude.{ℕ, zero, suc, ◌+◌, ◌*◌, Bool, true, false, if◌then◌else◌, List, [], ◌∷◌, ◌++◌, length, map, take, drop, flat_map}
use Rattle.std.specs.Int.{Width, w32, w64, to_le_bytes, cast_unsigned, div_ceil}
use Rattle.mx_schema.specs.declared.cell.Cell.{Cell}
use Rattle.mx_schema.specs.declared.cell.Cell.TheVariants as cells
use Rattle.mx_schema.specs.declared.column.ColumnKind.{ColumnKind}
use Rattle.mx_schema.specs.declared.column.ColumnKind.TheVariants as kinds
use Rattle.mx_levels.specs.Encoding.{written}
use Rattle.mx_parquet.specs.Columns.{FilledColumn}

-- a number, its lowest byte first
unfoldable pub number : Width → ℕ → List ℕ
number w n = to_le_bytes w n

-- a cell that is not null
abbrev pub is_present : Cell → Bool
is_present cells.Null = false
is_present (cells.Flag flag) = true
is_present (cells.Small n) = true
is_present (cells.Whole n) = true
is_present (cells.Text text) = true

-- the levels of cells, which say of each whether it is not null
abbrev pub levels : List Cell → List ℕ
levels column = written (map is_present column)

-- the levels behind their length, where nulls are allowed
abbrev pub level_bytes : Bool → List Cell → List ℕ
level_bytes true column = number w32 (length (levels column)) ++ levels column
level_bytes false column = []

-- the bytes of a number or a text; a null has none, and truth values stand as bits
abbrev pub plain : Cell → List ℕ
plain cells.Null = []
plain (cells.Flag flag) = []
plain (cells.Small n) = number w32 (cast_unsigned w32 n)
plain (cells.Whole n) = number w64 (cast_unsigned w64 n)
plain (cells.Text text) = number w32 (length text) ++ text

-- the truth value of a cell that has one
abbrev pub truths : Cell → List Bool
truths cells.Null = []
truths (cells.Flag flag) = flag ∷ []
truths (cells.Small n) = []
truths (cells.Whole n) = []
truths (cells.Text text) = []

-- the number that bits are, the lowest first
abbrev pub bit_sum : List Bool → ℕ
bit_sum [] = 0
bit_sum (bit ∷ bits) = (if bit then 1 else 0) + 2 * bit_sum bits

-- so many bytes, each of the next eight bits
unfoldable pub bytes_of_bits : ℕ → List Bool → List ℕ
bytes_of_bits zero bits = []
bytes_of_bits (suc count) bits = bit_sum (take 8 bits) ∷ bytes_of_bits count (drop 8 bits)

-- a bit for each truth value, in as few bytes as hold them
abbrev pub packed : List Bool → List ℕ
packed bits = bytes_of_bits (div_ceil (length bits) 8) bits

-- the cells of a column that are not null
abbrev pub value_bytes : ColumnKind → List Cell → List ℕ
value_bytes kinds.Boolean column = packed (flat_map truths column)
value_bytes kinds.Int32 column = flat_map plain column
value_bytes kinds.Int64 column = flat_map plain column
value_bytes kinds.Text column = flat_map plain column

-- the page of a column
abbrev pub page : FilledColumn → List ℕ
page filled = level_bytes filled.column.nullable filled.cells ++ value_bytes filled.column.kind filled.cells
