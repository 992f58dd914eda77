use Rattle.std.proofs.Common.{◌≡◌, length}
use Rattle.mx_parquet.specs.Values.{plain_in}
use Rattle.mx_parquet.proofs.InTurn.{with_front}
use Rattle.mx_parquet.proofs.values.plain_of.Given as goal

abbrev pub invariant-loop-level : goal.invariant-loop-level
invariant-loop-level l = with_front l.cells (plain_in l.kind l.more l.rest) ≡ plain_in l.kind l.levels l.bytes

abbrev pub decreases-loop-level : goal.decreases-loop-level
decreases-loop-level l = length l.more
