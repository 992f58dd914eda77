use Rattle.std.proofs.Common.{◌≡◌, All, length, map, take}
use Rattle.mx_parquet.specs.Fits.{IsEncoded}
use Rattle.mx_parquet.specs.Seen.{seen_cell}
use Rattle.mx_rows.specs.Filled as spec
use Rattle.mx_rows.proofs.cells.cells_of.Given as goal

abbrev pub invariant-loop-place : goal.invariant-loop-place
invariant-loop-place l = record {
  same : length l.columns ≡ length l.elements;
  cells : map seen_cell l.cells.items ≡ spec.cells_of (take l.place l.columns) (take l.place l.elements);
  encoded : All IsEncoded (map seen_cell l.cells.items);
}
