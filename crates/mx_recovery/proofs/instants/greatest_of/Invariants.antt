use Rattle.std.proofs.Common.{take}
use Rattle.mx_recovery.specs.Planning.{IsGreatestOf}
use Rattle.mx_recovery.proofs.instants.greatest_of.Given as goal

abbrev pub invariant-loop-path : goal.invariant-loop-path
invariant-loop-path l = IsGreatestOf l.fn.least (take l.path-index l.paths) l.greatest
