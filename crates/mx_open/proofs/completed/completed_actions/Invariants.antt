use Rattle.std.proofs.Common.{◌≡◌, take}
use Rattle.std.specs.List.{filter_map}
use Rattle.mx_model.specs.Timeline as timeline
use Rattle.mx_open.proofs.completed.completed_actions.Given as goal

abbrev pub invariant-loop-path : goal.invariant-loop-path
invariant-loop-path l = l.actions ≡ filter_map (timeline.action_at l.held) (take l.path-index l.names)
