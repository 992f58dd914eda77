use Rattle.std.proofs.Common.{◌≡◌, take, All}
use Rattle.mx_parquet.specs.Fits.{HasTexts}
use Rattle.mx_rows.specs.Filled as spec
use Rattle.mx_rows.proofs.filling.full_rows.Given as goal

abbrev pub invariant-loop-number : goal.invariant-loop-number
invariant-loop-number l = All HasTexts l.full.items × (l.full.items ≡ spec.full_rows l.schema (record { at = l.place.at; number = l.place.number; partition = l.place.partition.now; name = l.place.name.now }) (take l.number l.rows))
