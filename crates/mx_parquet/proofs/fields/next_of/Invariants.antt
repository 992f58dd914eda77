use Rattle.std.proofs.Common.{◌≡◌, length}
use Rattle.mx_parquet.specs.Decoding.{values_of}
use Rattle.mx_parquet.proofs.fields.next_of.Given as goal

abbrev pub invariant-loop-rest : goal.invariant-loop-rest
invariant-loop-rest l = values_of l.id l.rest ≡ values_of l.id l.fields

abbrev pub decreases-loop-rest : goal.decreases-loop-rest
decreases-loop-rest l = length l.rest
