use Rattle.std.proofs.Common.{◌≡◌, map}
use Rattle.mx_open.proofs.held.Held.paths.Given as goal

abbrev pub invariant-loop-path : goal.invariant-loop-path
invariant-loop-path l = l.paths ≡ map (λ path. path.now) l.yielded
