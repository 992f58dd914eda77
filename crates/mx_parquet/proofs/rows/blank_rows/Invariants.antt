use Rattle.std.proofs.Common.{◌≡◌, replicate}
use Rattle.mx_parquet.specs.Filling.{blank}
use Rattle.mx_parquet.proofs.rows.blank_rows.Given as goal

abbrev pub invariant-loop : goal.invariant-loop
invariant-loop l = l.rows.items ≡ replicate l.counter blank
