use Rattle.std.proofs.Common.{◌≡◌, take}
use Rattle.std.specs.List.{flat_map}
use Rattle.mx_folder.specs.Pending.{left_by}
use Rattle.mx_recovery.proofs.deletes.left_paths.Given as goal

abbrev pub invariant-loop-left : goal.invariant-loop-left
invariant-loop-left l = l.paths ≡ flat_map left_by (take l.left-index l.pendings)
