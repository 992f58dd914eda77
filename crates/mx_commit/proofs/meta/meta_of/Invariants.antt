use Rattle.std.proofs.Common.{◌≡◌, map}
use Rattle.std.specs.Map.Iter.{deref}
use Rattle.mx_commit.specs.Grouping.{partition_stats}
use Rattle.mx_commit.proofs.meta.meta_of.Given as goal

abbrev pub invariant-loop-partition : goal.invariant-loop-partition
invariant-loop-partition l = l.partitions ≡ map (partition_stats l.written l.ids.keys) (map deref l.yielded)
