use Rattle.std.proofs.Common.{◌≡◌, take, map, All}
use Rattle.serde_json.specs.View.{view}
use Rattle.mx_meta.specs.CommitText.{stat_data, HasNames}
use Rattle.mx_meta.proofs.commit_meta.stat_values.Given as goal

abbrev pub invariant-loop-stat : goal.invariant-loop-stat
invariant-loop-stat l = record {
  made : map view l.values.items ≡ map stat_data (take l.stat-index l.stats);
  named : All HasNames (take l.stat-index l.stats);
}
