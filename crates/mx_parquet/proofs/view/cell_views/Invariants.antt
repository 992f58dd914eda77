use Rattle.std.proofs.Common.{◌≡◌, map, take}
use Rattle.mx_parquet.specs.Seen.{seen_cell}
use Rattle.mx_parquet.proofs.view.cell_views.Given as goal

abbrev pub invariant-loop-cell : goal.invariant-loop-cell
invariant-loop-cell l = map seen_cell l.views.items ≡ take l.cell-index l.cells
