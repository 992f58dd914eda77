use Rattle.std.proofs.Common.{◌≡◌, drop}
use Rattle.mx_props.specs.Config.{rises_from}
use Rattle.mx_props.proofs.parts.rises.Given as goal

abbrev pub invariant-loop-part : goal.invariant-loop-part
invariant-loop-part l = rises_from l.least (drop l.part-index l.parts) ≡ rises_from 0 l.parts
