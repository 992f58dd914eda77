use Rattle.std.proofs.Common.{◌≡◌, drop, map}
use Rattle.std.specs.List.{fold, flat_map}
use Rattle.mx_meta.specs.declared.commit_meta.PartitionStats.{PartitionStats}
use Rattle.mx_model.specs.Listing.{file_of, files_of}
use Rattle.mx_files.specs.Files.{with_file}
use Rattle.mx_model.proofs.program.add_action.Given as goal

abbrev pub invariant-loop-stats : goal.invariant-loop-stats
invariant-loop-stats l =
    fold with_file l.maps (flat_map (λ (stats : PartitionStats). map (file_of l.action.at stats.partition) stats.stats) (drop l.stats-index l.stats-items)) ≡ fold with_file l.fn.maps (files_of l.action)
