use Rattle.std.proofs.Common.{◌≡◌, length, take}
use Rattle.mx_parquet.proofs.CellsSay.{FilledFrom}
use Rattle.mx_parquet.proofs.rows.fill.Given as goal

abbrev pub invariant-loop-cell : goal.invariant-loop-cell
invariant-loop-cell l = record {
  left : l.cells.items ≡ take (length l.cells.items) l.fn.cells;
  so_far : FilledFrom l.place (length l.cells.items) l.fn.cells l.fn.rows.items l.rows.items;
}

abbrev pub decreases-loop-cell : goal.decreases-loop-cell
decreases-loop-cell l = length l.cells.items
