use Rattle.std.proofs.Common.{◌≤◌, length}
use Rattle.mx_levels.proofs.DecodingLemmas.{SoFar}
use Rattle.mx_levels.proofs.reading.read_levels.Given as goal

abbrev pub invariant-loop-levels : goal.invariant-loop-levels
invariant-loop-levels l = record {
  so_far : SoFar l.bytes l.rest l.count l.levels.items;
  within : length l.levels.items ≤ l.count;
}

abbrev pub decreases-loop-levels : goal.decreases-loop-levels
decreases-loop-levels l = length l.rest
