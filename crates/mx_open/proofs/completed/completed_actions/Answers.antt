use Rattle.std.proofs.Common.{◌∙◌, ap}
use Rattle.std.specs.List.{filter_map}
use Rattle.std.proofs.lemmas.List.{take_all}
use Rattle.mx_model.specs.Timeline as timeline
use Rattle.mx_open.proofs.CommitLemmas.{actions_more, are_commits}
use Rattle.mx_open.proofs.completed.completed_actions.Goals as goal

pub loop-path-preserved : goal.loop-path-preserved
loop-path-preserved c =
    actions_more (timeline.action_at c.args.held.now) c.args.names.now c.loop-path.path-index c.path-item.result c.loop-path.actions c.add_action.new.actions c.loop-path-test.true c.path-item.is c.loop-path.invariant
    c.in_ok-add_action.ensures

pub returns : goal.returns
returns c objects named = are_commits objects c.args.held.now c.args.names.now c.loop-path.actions named
    (c.loop-path.invariant ∙ ap (filter_map (timeline.action_at c.args.held.now)) (take_all c.loop-path.path-index c.args.names.now c.loop-path-test.false))
