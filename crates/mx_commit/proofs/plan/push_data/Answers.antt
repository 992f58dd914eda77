use Rattle.std.proofs.lemmas.List.Elements.{All-push}
use Rattle.mx_commit.specs.Written.{IsNamedFile}
use Rattle.mx_commit.proofs.PlanLemmas.{data_more}
use Rattle.mx_commit.proofs.plan.push_data.Goals as goal

pub loop-file-preserved : goal.loop-file-preserved
loop-file-preserved c = record {
  changes = data_more c.args.changes.now.items c.loop-file.changes.items c.push.new.changes.items c.loop-file.yielded c.in-Some.file c.args.at c.in_ok-data_change.field-0 c.loop-file.invariant.changes c.in_ok-data_change.ensures.change c.in_ok-push.ensures;
  names = All-push IsNamedFile c.loop-file.yielded c.in-Some.file c.loop-file.invariant.names c.in_ok-data_change.ensures.names;
}
