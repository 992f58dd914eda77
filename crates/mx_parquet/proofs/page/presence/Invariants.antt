use Rattle.std.proofs.Common.{◌≡◌, map, take}
use Rattle.mx_parquet.specs.Columns.{cells_at}
use Rattle.mx_parquet.specs.Pages.{is_present}
use Rattle.mx_parquet.proofs.page.presence.Given as goal

abbrev pub invariant-loop-row : goal.invariant-loop-row
invariant-loop-row l = l.present.items ≡ map is_present (cells_at l.place (take l.row-index l.rows))
