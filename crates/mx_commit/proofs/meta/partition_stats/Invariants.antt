use Rattle.std.proofs.Common.{◌≡◌, map}
use Rattle.std.specs.List.{flat_map}
use Rattle.std.specs.Map.Iter.{deref}
use Rattle.mx_commit.specs.Grouping.{group_stats}
use Rattle.mx_commit.proofs.meta.partition_stats.Given as goal

abbrev pub invariant-loop-id : goal.invariant-loop-id
invariant-loop-id l = l.stats ≡ flat_map (group_stats l.written l.partition) (map deref l.yielded)
