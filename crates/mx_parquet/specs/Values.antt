-- The cells of a page, from their levels and the bytes of their values, with the first flaw.
use Rattle.std.specs.Prelude.{◌≡◌, ℕ, ◌*◌, ◌/◌, nat_lt, ◌==◌, Bool, true, false, if◌then◌else◌, List, [], ◌∷◌, length, filter, take, drop, flat_map, Result, Ok, Err}
use Rattle.std.specs.Int.{w32, w64, from_le_bytes, cast_signed, div_ceil}
use Rattle.std.specs.Str.{is_utf8}
use Rattle.mx_schema.specs.declared.cell.Cell.{Cell}
use Rattle.mx_schema.specs.declared.cell.Cell.TheVariants as cells
use Rattle.mx_schema.specs.declared.column.ColumnKind.{ColumnKind}
use Rattle.mx_schema.specs.declared.column.ColumnKind.TheVariants as kinds
use Rattle.mx_levels.specs.Encoding.{bits}
use Rattle.mx_parquet.specs.declared.error.Failure.{Failure}
use Rattle.mx_parquet.specs.Reading.{Read, Fails, ◌>>=◌, bad}

-- what a function answered, seen by view, is what was read, unless memory ran out
abbrev pub Tells : {X Y : Type 0} → (X → Y) → Result X Failure → Read Y → Type 0
Tells view (Ok x) read = read ≡ Ok (view x)
Tells view (Err e) read = Fails e read

-- so many bytes in front, and those behind
unfoldable pub front_in : ℕ → List ℕ → Read (List ℕ × List ℕ)
front_in count bytes = if nat_lt (length bytes) count then bad else Ok (take count bytes, drop count bytes)

-- bytes behind their length, and those behind them
unfoldable pub sized_in : List ℕ → Read (List ℕ × List ℕ)
sized_in bytes = front_in 4 bytes >>= λ len. front_in (from_le_bytes w32 len.0) len.1

-- a text in UTF-8, and the bytes behind it
abbrev pub text_of : List ℕ × List ℕ → Read (Cell × List ℕ)
text_of parts = if is_utf8 parts.0 then Ok (cells.Text parts.0, parts.1) else bad

-- a value of a kind, and the bytes behind it; truth values stand as bits
unfoldable pub value_in : ColumnKind → List ℕ → Read (Cell × List ℕ)
value_in kinds.Boolean bytes = bad
value_in kinds.Int32 bytes = front_in 4 bytes >>= λ parts. Ok (cells.Small (cast_signed w32 (from_le_bytes w32 parts.0)), parts.1)
value_in kinds.Int64 bytes = front_in 8 bytes >>= λ parts. Ok (cells.Whole (cast_signed w64 (from_le_bytes w64 parts.0)), parts.1)
value_in kinds.Text bytes = sized_in bytes >>= text_of

-- a cell by its level, and the bytes behind it: a null has none
abbrev pub cell_in : ColumnKind → Bool → List ℕ → Read (Cell × List ℕ)
cell_in kind false bytes = Ok (cells.Null, bytes)
cell_in kind true bytes = value_in kind bytes

-- no bytes are left
abbrev pub at_end : List ℕ → Read (List Cell)
at_end [] = Ok []
at_end (byte ∷ bytes) = bad

-- a cell for each level, of bytes that are filled
unfoldable pub plain_in : ColumnKind → List Bool → List ℕ → Read (List Cell)
plain_in kind [] bytes = at_end bytes
plain_in kind (level ∷ levels) bytes = cell_in kind level bytes >>= λ x. plain_in kind levels x.1 >>= λ cells. Ok (x.0 ∷ cells)

-- a truth value or a null by its level, and the truth values behind
abbrev pub flag_in : Bool → List Bool → Cell × List Bool
flag_in false flags = (cells.Null, flags)
flag_in true [] = (cells.Null, [])
flag_in true (flag ∷ flags) = (cells.Flag flag, flags)

-- a cell for each level, of truth values in order
unfoldable pub flags_in : List Bool → List Bool → List Cell
flags_in [] flags = []
flags_in (level ∷ levels) flags = (flag_in level flags).0 ∷ flags_in levels (flag_in level flags).1

-- how many levels are those of a value
unfoldable pub present_count : List Bool → ℕ
present_count levels = length (filter (λ level. level) levels)

-- a cell for each level, of the bits in as few bytes as hold them
unfoldable pub truths_in : List Bool → List ℕ → Read (List Cell)
truths_in levels bytes = if length bytes == div_ceil (present_count levels) 8 then Ok (flags_in levels (flat_map (bits 8) bytes)) else bad

-- a cell for each level
abbrev pub cells_in : ColumnKind → List Bool → List ℕ → Read (List Cell)
cells_in kinds.Boolean levels bytes = truths_in levels bytes
cells_in kinds.Int32 levels bytes = plain_in kinds.Int32 levels bytes
cells_in kinds.Int64 levels bytes = plain_in kinds.Int64 levels bytes
cells_in kinds.Text levels bytes = plain_in kinds.Text levels bytes

-- how many values of a kind so many bytes hold at most: a truth value has a bit, and a text its length
abbrev pub most_values : ColumnKind → ℕ → ℕ
most_values kinds.Boolean len = 8 * len
most_values kinds.Int32 len = len / 4
most_values kinds.Int64 len = len / 8
most_values kinds.Text len = len / 4
