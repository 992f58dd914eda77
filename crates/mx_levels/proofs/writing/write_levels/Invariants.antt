use Rattle.std.proofs.Common.{◌≡◌, ◌++◌, ◌≤◌, length}
use Rattle.mx_levels.specs.Encoding.{written}
use Rattle.mx_levels.proofs.writing.write_levels.Given as goal

abbrev pub invariant-loop-level : goal.invariant-loop-level
invariant-loop-level l = record {
  spelled : l.out.items ++ written l.rest ≡ written l.levels;
  within : length l.rest ≤ length l.levels;
}

abbrev pub decreases-loop-level : goal.decreases-loop-level
decreases-loop-level l = length l.rest
