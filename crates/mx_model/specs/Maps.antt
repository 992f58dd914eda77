-- What the listed files say, as a map from partitions to names and sizes.
use Rattle.std.specs.Prelude.{ℕ, List, bytes_eq, if◌then◌else◌}
use Rattle.std.specs.FinMap as finmap
use Rattle.mx_base.specs.declared.entry.FileAt.{FileAt}
use Rattle.mx_files.specs.Files.{FilesMap, name_of, files_map}
use Rattle.mx_merge.specs.Shown.{SizeMap}
use Rattle.mx_store.specs.Objects.{Objects}
use Rattle.mx_model.specs.declared.action.Action.{Action}
use Rattle.mx_model.specs.Timeline.{completed_actions, actions_upto}
use Rattle.mx_model.specs.Listing.{listed_files}

-- what the actions list
abbrev pub maps_of : List Action → FilesMap
maps_of actions = files_map (listed_files actions)

-- what the completed commits at most at an instant list
abbrev pub maps_at : Objects → ℕ → FilesMap
maps_at objects at = maps_of (actions_upto (completed_actions objects) at)

-- the sizes of a partition after one more file, which may be another partition's
abbrev pub with_file_in : List ℕ → SizeMap → FileAt → SizeMap
with_file_in partition sizes file = if bytes_eq file.partition partition then finmap.insert sizes (name_of file) file.size else sizes
