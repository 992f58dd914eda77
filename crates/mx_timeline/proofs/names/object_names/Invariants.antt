use Rattle.std.proofs.Common.{take}
use Rattle.std.specs.List.{AllZip}
use Rattle.mx_timeline.specs.Timeline.{IsNameOf}
use Rattle.mx_timeline.proofs.names.object_names.Given as goal

abbrev pub invariant-loop-name : goal.invariant-loop-name
invariant-loop-name l = AllZip IsNameOf (take l.name-index l.names) l.objects
