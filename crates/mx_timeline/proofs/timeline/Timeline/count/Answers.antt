use Rattle.mx_timeline.proofs.StageLemmas.{has-key, key-has}
use Rattle.mx_timeline.proofs.timeline.Timeline.count.Goals as goal

pub returns : goal.returns
returns c names is = record {
  instants = c.args.self.now.instants.keys;
  rising = c.len.ensures.ordered;
  all = λ at h. has-key c.args.self.now.instants at (is.all_instants at h);
  only = λ at h. is.instants at (key-has c.args.self.now.instants at h);
  count_is = c.len.ensures.len;
}
