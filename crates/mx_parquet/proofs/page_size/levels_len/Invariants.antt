use Rattle.std.proofs.Common.{◌≡◌, ◌+◌, ◌-◌, ◌≤◌, ◌^◌, drop, length, min}
use Rattle.mx_parquet.specs.Columns.{cells_at}
use Rattle.mx_parquet.specs.Pages.{levels}
use Rattle.mx_parquet.proofs.page_size.levels_len.Given as goal

abbrev pub invariant-loop-from : goal.invariant-loop-from
invariant-loop-from l = record {
  bytes : min (l.len + length (levels (cells_at l.place (drop l.from l.rows)))) (2 ^ 64 - 1) ≡ min (length (levels (cells_at l.place l.rows))) (2 ^ 64 - 1);
  fits : l.len ≤ 2 ^ 64 - 1;
  within : l.from ≤ length l.rows;
}

abbrev pub decreases-loop-from : goal.decreases-loop-from
decreases-loop-from l = length l.rows - l.from
