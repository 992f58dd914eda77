use Rattle.std.proofs.Common.{◌≡◌, map, take}
use Rattle.mx_commit.specs.declared.new_file.NewFile.{NewFile}
use Rattle.mx_commit.specs.Written.{data_file}
use Rattle.mx_commit.proofs.plan.planned_paths.Given as goal

abbrev pub invariant-loop-file : goal.invariant-loop-file
invariant-loop-file l = l.paths ≡ map (λ (file : NewFile). data_file file l.at) (take l.file-index l.files)
