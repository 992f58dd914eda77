use Rattle.std.proofs.Common.{All, take}
use Rattle.mx_open.specs.Deciding.{HasBaseIn}
use Rattle.mx_open.proofs.context.are_based.Given as goal

abbrev pub invariant-loop-part : goal.invariant-loop-part
invariant-loop-part l = All (HasBaseIn l.bases) (take l.part-index l.parts)
