use Rattle.std.proofs.Common.{All, take}
use Rattle.mx_folder.specs.Reading.{IsDataFileOf}
use Rattle.mx_open.proofs.kinds.are_data_files_of.Given as goal

abbrev pub invariant-loop-path : goal.invariant-loop-path
invariant-loop-path l = All (IsDataFileOf l.at) (take l.path-index l.paths)
