use Rattle.std.proofs.Common.{◌≡◌, All, take}
use Rattle.mx_base.specs.Paths.{data_path}
use Rattle.mx_meta.specs.declared.commit_meta.WriteStat.{WriteStat}
use Rattle.mx_open.proofs.kinds.are_named.Given as goal

abbrev pub invariant-loop-stat : goal.invariant-loop-stat
invariant-loop-stat l = All (λ (s : WriteStat). s.path ≡ data_path l.partition s.file_id l.at) (take l.stat-index l.stats)
