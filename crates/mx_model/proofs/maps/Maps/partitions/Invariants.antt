use Rattle.std.proofs.Common.{◌≡◌, map}
use Rattle.mx_model.proofs.maps.Maps.partitions.Given as goal

abbrev pub invariant-loop-partition : goal.invariant-loop-partition
invariant-loop-partition l = l.names ≡ map (λ partition. partition.now) l.yielded
