-- The files that a table has.
use Rattle.std.specs.Prelude.{ℕ, List, map}
use Rattle.std.specs.List.{flat_map}
use Rattle.mx_base.specs.declared.entry.FileAt.{FileAt}
use Rattle.mx_meta.specs.declared.commit_meta.PartitionStats.{PartitionStats}
use Rattle.mx_meta.specs.declared.commit_meta.WriteStat.{WriteStat}
use Rattle.mx_model.specs.declared.action.Action.{Action}

-- a file that a commit of this instant wrote into a partition
abbrev pub file_of : ℕ → List ℕ → WriteStat → FileAt
file_of at partition stat = record { partition = partition; file = stat.file_id; at = at; size = stat.file_size_in_bytes }

-- the files that a commit wrote
abbrev pub files_of : Action → List FileAt
files_of action = flat_map (λ (stats : PartitionStats). map (file_of action.at stats.partition) stats.stats) action.meta.partitions

-- the files that the commits name
abbrev pub listed_files : List Action → List FileAt
listed_files actions = flat_map files_of actions
