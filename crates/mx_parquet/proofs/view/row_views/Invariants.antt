use Rattle.std.proofs.Common.{◌≡◌, take}
use Rattle.mx_parquet.proofs.view.row_views.Given as goal

abbrev pub invariant-loop-row : goal.invariant-loop-row
invariant-loop-row l = l.views.items ≡ take l.row-index l.rows
