use Rattle.std.proofs.Common.{◌≡◌, ◌++◌, length}
use Rattle.mx_parquet.specs.Values.{flags_in}
use Rattle.mx_parquet.proofs.values.flags_of.Given as goal

abbrev pub invariant-loop-level : goal.invariant-loop-level
invariant-loop-level l = l.cells ++ flags_in l.more l.rest ≡ flags_in l.levels l.flags

abbrev pub decreases-loop-level : goal.decreases-loop-level
decreases-loop-level l = length l.more
