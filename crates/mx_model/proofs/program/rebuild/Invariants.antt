use Rattle.std.proofs.Common.{◌≡◌, drop}
use Rattle.std.specs.List.{fold}
use Rattle.mx_model.specs.Timeline.{actions_upto}
use Rattle.mx_model.specs.Listing.{listed_files}
use Rattle.mx_files.specs.Files.{with_file}
use Rattle.mx_model.specs.Maps.{maps_of}
use Rattle.mx_model.proofs.program.rebuild.Given as goal

abbrev pub invariant-loop-action : goal.invariant-loop-action
invariant-loop-action l = fold with_file l.maps (listed_files (actions_upto (drop l.action-index l.actions) l.at)) ≡ maps_of (actions_upto l.actions l.at)
