use Rattle.mx_timeline.proofs.TimelineLemmas.{frontier_is, unfinished_is}
use Rattle.mx_timeline.proofs.timeline.Timeline.frontier.Goals as goal

pub returns : goal.returns
returns c names is =
    frontier_is names c.lesser-bound.result c.greatest_upto.result
    (unfinished_is names c.args.self.now c.least_pending.result c.least_pending-2.result c.lesser-bound.result is c.least_pending.ensures c.least_pending-2.ensures c.lesser-bound.ensures)
    (c.greatest_upto.ensures names is)
