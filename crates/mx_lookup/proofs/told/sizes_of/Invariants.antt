use Rattle.std.proofs.Common.{◌≡◌, map}
use Rattle.mx_lookup.specs.Looking.{file_size}
use Rattle.mx_lookup.proofs.told.sizes_of.Given as goal

abbrev pub invariant-loop-word : goal.invariant-loop-word
invariant-loop-word l = l.files ≡ map file_size l.yielded
