use Rattle.mx_timeline.proofs.TimelineLemmas.{newest_is}
use Rattle.mx_timeline.proofs.timeline.Timeline.newest.Goals as goal

pub returns : goal.returns
returns c names is = newest_is names c.greatest_upto.result (c.greatest_upto.ensures names is)
