use Rattle.std.proofs.Common.{◌≡◌, ◌<◌, ◌+◌, ◌-◌, ◌^◌, length, min}
use Rattle.mx_parquet.specs.Footer.{rows_in}
use Rattle.mx_parquet.proofs.groups.rows_of.Given as goal

abbrev pub invariant-loop-group : goal.invariant-loop-group
invariant-loop-group l = record {
  sum : min (l.row_count + rows_in l.rest) (2 ^ 64 - 1) ≡ min (rows_in l.groups) (2 ^ 64 - 1);
  below : l.row_count < 2 ^ 64;
}

abbrev pub decreases-loop-group : goal.decreases-loop-group
decreases-loop-group l = length l.rest
