use Rattle.std.proofs.Common.{◌≡◌, ◌+◌, drop}
use Rattle.std.specs.List.{prefix_len}
use Rattle.std.specs.Bool.{beq}
use Rattle.mx_levels.proofs.writing.leading.Given as goal

abbrev pub invariant-loop-index : goal.invariant-loop-index
invariant-loop-index l = l.index + prefix_len (beq l.level) (drop l.index l.levels) ≡ prefix_len (beq l.level) l.levels
