use Rattle.std.proofs.Common.{◌≡◌, ◌≤◌, length, flat_map, take}
use Rattle.mx_parquet.specs.Columns.{cells_at}
use Rattle.mx_parquet.specs.Pages.{truths}
use Rattle.mx_parquet.proofs.page_size.truth_count.Given as goal

abbrev pub invariant-loop-row : goal.invariant-loop-row
invariant-loop-row l = record {
  count : l.count ≡ length (flat_map truths (cells_at l.place (take l.row-index l.rows)));
  few : l.count ≤ l.row-index;
}
