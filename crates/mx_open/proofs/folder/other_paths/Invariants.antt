use Rattle.std.proofs.Common.{◌≡◌, take}
use Rattle.std.specs.Prelude.{filter, not}
use Rattle.mx_folder.specs.Named.{is_hidden}
use Rattle.mx_open.proofs.folder.other_paths.Given as goal

abbrev pub invariant-loop-path : goal.invariant-loop-path
invariant-loop-path l = l.others ≡ filter (λ path. not (is_hidden path)) (take l.path-index l.paths)
