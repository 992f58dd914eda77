use Rattle.std.proofs.Common.{◌≡◌, All, take}
use Rattle.mx_base.specs.Paths.{data_path}
use Rattle.mx_meta.specs.declared.commit_meta.PartitionStats.{PartitionStats}
use Rattle.mx_meta.specs.declared.commit_meta.WriteStat.{WriteStat}
use Rattle.mx_open.proofs.kinds.names_its_files.Given as goal

abbrev pub invariant-loop-written : goal.invariant-loop-written
invariant-loop-written l =
    All (λ (p : PartitionStats). All (λ (s : WriteStat). s.path ≡ data_path p.partition s.file_id l.at) p.stats) (take l.written-index l.partitions)
