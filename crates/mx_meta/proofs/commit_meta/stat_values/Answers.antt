use Rattle.serde_json.specs.View.{view}
use Rattle.mx_meta.specs.CommitText.{stat_data, HasNames}
use Rattle.mx_meta.proofs.JsonLemmas.{made_more, named_more}
use Rattle.mx_meta.proofs.commit_meta.stat_values.Goals as goal

pub loop-stat-preserved : goal.loop-stat-preserved
loop-stat-preserved c = record {
  made = made_more view stat_data c.loop-stat.values.items c.push.new.self.items c.in_ok-stat_value.field-0 c.args.stats.now c.loop-stat.stat-index c.stat-item.result
      c.in_ok-push.ensures.items c.loop-stat.invariant.made c.in_ok-stat_value.ensures.value c.loop-stat-test.true c.stat-item.is;
  named = named_more HasNames c.args.stats.now c.loop-stat.stat-index c.stat-item.result
      c.loop-stat.invariant.named c.in_ok-stat_value.ensures.names c.loop-stat-test.true c.stat-item.is;
}
