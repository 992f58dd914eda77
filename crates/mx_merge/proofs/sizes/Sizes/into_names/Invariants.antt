use Rattle.std.proofs.Common.{◌≡◌, map}
use Rattle.mx_merge.proofs.sizes.Sizes.into_names.Given as goal

abbrev pub invariant-loop-name : goal.invariant-loop-name
invariant-loop-name l = l.names.items ≡ map (λ e. e.0) l.yielded
