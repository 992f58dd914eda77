use Rattle.std.proofs.Common.{◌≡◌}
use Rattle.mx_merge.specs.Shown.{sizes_left}
use Rattle.mx_merge.proofs.sizes.with_words.Given as goal

abbrev pub invariant-loop-word : goal.invariant-loop-word
invariant-loop-word l = l.sizes ≡ sizes_left l.fn.sizes l.yielded
