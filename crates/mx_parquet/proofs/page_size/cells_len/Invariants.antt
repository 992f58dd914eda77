use Rattle.std.proofs.Common.{◌≡◌, ◌-◌, ◌^◌, length, min, flat_map, take}
use Rattle.mx_parquet.specs.Columns.{cells_at}
use Rattle.mx_parquet.specs.Pages.{plain}
use Rattle.mx_parquet.proofs.page_size.cells_len.Given as goal

abbrev pub invariant-loop-row : goal.invariant-loop-row
invariant-loop-row l = l.len ≡ min (length (flat_map plain (cells_at l.place (take l.row-index l.rows)))) (2 ^ 64 - 1)
