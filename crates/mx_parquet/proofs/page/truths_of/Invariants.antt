use Rattle.std.proofs.Common.{◌≡◌, flat_map, take}
use Rattle.mx_parquet.specs.Columns.{cells_at}
use Rattle.mx_parquet.specs.Pages.{truths}
use Rattle.mx_parquet.proofs.page.truths_of.Given as goal

abbrev pub invariant-loop-row : goal.invariant-loop-row
invariant-loop-row l = l.bits.items ≡ flat_map truths (cells_at l.place (take l.row-index l.rows))
