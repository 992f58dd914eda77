use Rattle.std.proofs.Common.{◌≡◌, map, false}
use Rattle.mx_merge.proofs.sizes.Sizes.into_words.Given as goal

abbrev pub invariant-loop-name : goal.invariant-loop-name
invariant-loop-name l = l.words.items ≡ map (λ e. record { name = e.0; size = e.1; deleted = false }) l.yielded
