use Rattle.std.proofs.Common.{drop}
use Rattle.std.specs.Prelude.{◌↔◌}
use Rattle.std.specs.List.{AllByRecursion}
use Rattle.mx_parquet.specs.Fits.{FitsRow}
use Rattle.mx_parquet.proofs.fitting.all_fit.Given as goal

abbrev pub invariant-loop-row : goal.invariant-loop-row
invariant-loop-row l = AllByRecursion (FitsRow l.columns) (drop l.row-index l.rows) ↔ AllByRecursion (FitsRow l.columns) l.rows
