use Rattle.std.proofs.Common.{◌≡◌, ◌++◌, map, take}
use Rattle.mx_base.specs.Paths.{group_name}
use Rattle.mx_meta.specs.declared.commit_meta.WriteStat.{WriteStat}
use Rattle.mx_groups.proofs.listing.push_groups.Given as goal

abbrev pub invariant-loop-stat : goal.invariant-loop-stat
invariant-loop-stat l = l.groups ≡ l.fn.groups ++ map (λ (s : WriteStat). group_name l.partition s.file_id) (take l.stat-index l.stats)
