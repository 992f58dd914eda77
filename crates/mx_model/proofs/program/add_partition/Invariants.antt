use Rattle.std.proofs.Common.{◌≡◌, drop, map}
use Rattle.std.specs.List.{fold}
use Rattle.mx_model.specs.Listing.{file_of}
use Rattle.mx_files.specs.Files.{with_file}
use Rattle.mx_model.proofs.program.add_partition.Given as goal

abbrev pub invariant-loop-stat : goal.invariant-loop-stat
invariant-loop-stat l = fold with_file l.maps (map (file_of l.at l.stats.partition) (drop l.stat-index l.stat-items)) ≡ fold with_file l.fn.maps (map (file_of l.at l.stats.partition) l.stats.stats)
