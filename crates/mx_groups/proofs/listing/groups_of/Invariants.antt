use Rattle.std.proofs.Common.{◌≡◌, map, take}
use Rattle.std.specs.List.{flat_map}
use Rattle.mx_base.specs.Paths.{group_name}
use Rattle.mx_meta.specs.declared.commit_meta.PartitionStats.{PartitionStats}
use Rattle.mx_meta.specs.declared.commit_meta.WriteStat.{WriteStat}
use Rattle.mx_groups.proofs.listing.groups_of.Given as goal

abbrev pub invariant-loop-stats : goal.invariant-loop-stats
invariant-loop-stats l = l.groups ≡ flat_map (λ (p : PartitionStats). map (λ (s : WriteStat). group_name p.partition s.file_id) p.stats) (take l.stats-index l.stats-items)
