use Rattle.std.proofs.Common.{◌↔◌, drop}
use Rattle.std.specs.List.{AllByRecursion}
use Rattle.mx_parquet.specs.Filling.{MayStand}
use Rattle.mx_parquet.proofs.rows.may_stand.Given as goal

abbrev pub invariant-loop-cell : goal.invariant-loop-cell
invariant-loop-cell l = AllByRecursion (MayStand l.place) l.cells ↔ AllByRecursion (MayStand l.place) (drop l.cell-index l.cells)
