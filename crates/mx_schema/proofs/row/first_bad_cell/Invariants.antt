use Rattle.std.proofs.Common.{◌≡◌, ℕ, ◌<◌, ◌≤◌}
use Rattle.std.specs.Prelude.{slice_get, map, length}
use Rattle.mx_schema.specs.Rows.{CellOf, Fits}
use Rattle.mx_schema.proofs.row.first_bad_cell.Given as goal

abbrev pub invariant-loop-column : goal.invariant-loop-column
invariant-loop-column l = record {
  place : l.place ≡ l.column-index;
  few : length l.columns ≤ 32;
  within : l.place ≤ length l.cells;
  before : (place : ℕ) → place < l.place → Fits (slice_get (map CellOf l.columns) place) (slice_get l.cells place);
}
