use Rattle.std.proofs.Common.{◌≡◌, length}
use Rattle.mx_parquet.specs.Footer as footers
use Rattle.mx_parquet.proofs.InTurn.{with_front}
use Rattle.mx_parquet.proofs.groups.chunks_of.Given as goal

abbrev pub invariant-loop-column : goal.invariant-loop-column
invariant-loop-column l = with_front l.places (footers.chunks_in l.len l.row_count l.columns l.values) ≡ footers.chunks_in l.len l.row_count l.initial.columns l.initial.values

abbrev pub decreases-loop-column : goal.decreases-loop-column
decreases-loop-column l = length l.columns
