-- The order of cells.
use Rattle.std.specs.Prelude.{ℕ, ℤ, pos, true, false, List, []}
use Rattle.std.specs.declared.cmp.Ordering.{Ordering}
use Rattle.std.specs.Ordering.{nat_cmp, int_cmp, ordering_then}
use Rattle.std.specs.Cmp.Lexicographic.{slice_cmp}
use Rattle.mx_schema.specs.declared.cell.Cell.{Cell}
use Rattle.mx_schema.specs.declared.cell.Cell.TheVariants as cells

-- nulls stand before truth values, these before numbers of both kinds, and these before texts
abbrev pub rank : Cell → ℕ
rank cells.Null = 0
rank (cells.Flag flag) = 1
rank (cells.Small n) = 2
rank (cells.Whole n) = 2
rank (cells.Text text) = 3

-- the number that a cell is compared by; false is 0 and true is 1
abbrev pub number : Cell → ℤ
number cells.Null = pos 0
number (cells.Flag false) = pos 0
number (cells.Flag true) = pos 1
number (cells.Small n) = n
number (cells.Whole n) = n
number (cells.Text text) = pos 0

-- the bytes that a cell is compared by
abbrev pub bytes : Cell → List ℕ
bytes cells.Null = []
bytes (cells.Flag flag) = []
bytes (cells.Small n) = []
bytes (cells.Whole n) = []
bytes (cells.Text text) = text

-- cells are ordered by what they are, then by number, then by bytes; equal numbers of the two kinds tie
abbrev pub cell_order : Cell → Cell → Ordering
cell_order a b = ordering_then (ordering_then (nat_cmp (rank a) (rank b)) (int_cmp (number a) (number b))) (slice_cmp nat_cmp (bytes a) (bytes b))
