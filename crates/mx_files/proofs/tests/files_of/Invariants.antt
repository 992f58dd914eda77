use Rattle.std.proofs.Common.{◌<◌, ◌^◌, All}
use Rattle.mx_files.proofs.tests.files_of.Given as goal

abbrev pub invariant-loop-file : goal.invariant-loop-file
invariant-loop-file l = All (λ file. file.size < 2 ^ 63) l.all.items
