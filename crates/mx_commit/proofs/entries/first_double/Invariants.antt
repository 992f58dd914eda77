use Rattle.std.proofs.Common.{take}
use Rattle.mx_commit.specs.Written.{asked_group, AreApartFiles}
use Rattle.mx_commit.proofs.entries.first_double.Given as goal

abbrev pub invariant-loop-place : goal.invariant-loop-place
invariant-loop-place l = AreApartFiles asked_group (take l.place l.files)
