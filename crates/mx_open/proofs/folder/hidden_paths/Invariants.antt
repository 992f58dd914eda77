use Rattle.std.proofs.Common.{◌≡◌, take}
use Rattle.std.specs.Prelude.{filter}
use Rattle.mx_folder.specs.Named.{is_hidden}
use Rattle.mx_open.proofs.folder.hidden_paths.Given as goal

abbrev pub invariant-loop-path : goal.invariant-loop-path
invariant-loop-path l = l.hidden ≡ filter is_hidden (take l.path-index l.paths)
