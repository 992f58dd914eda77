use Rattle.std.proofs.Common.{◌≡◌, drop}
use Rattle.mx_rows.specs.Checks as spec
use Rattle.mx_rows.proofs.checking.first_too_many.Given as goal

-- none of the files so far has too many
abbrev pub invariant-loop-file : goal.invariant-loop-file
invariant-loop-file l = spec.first_too_many l.files ≡ spec.first_too_many (drop l.file-index l.files)
