use Rattle.std.proofs.Common.{All, take}
use Rattle.mx_folder.specs.Reading.{IsLogOf}
use Rattle.mx_open.proofs.kinds.are_logs_of.Given as goal

abbrev pub invariant-loop-path : goal.invariant-loop-path
invariant-loop-path l = All (IsLogOf l.at) (take l.path-index l.paths)
