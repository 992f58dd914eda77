use Rattle.std.proofs.Common.{◌≡◌, map}
use Rattle.std.specs.Prelude.{filter, nat_le}
use Rattle.std.specs.Map.Iter.{deref}
use Rattle.mx_world.proofs.mirror.instants_upto.Given as goal

abbrev pub invariant-loop-instant : goal.invariant-loop-instant
invariant-loop-instant l = l.instants ≡ filter (λ t. nat_le t l.at) (map deref l.yielded)
