use Rattle.std.proofs.Common.{◌≡◌, map}
use Rattle.mx_model.proofs.maps.names_and_sizes.Given as goal

abbrev pub invariant-loop-name : goal.invariant-loop-name
invariant-loop-name l = l.files ≡ map (λ e. record { name = e.0.now; size = e.1.now }) l.yielded
