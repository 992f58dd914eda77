use Rattle.serde_json.specs.View.{view}
use Rattle.mx_open.proofs.KindLemmas.{no_members_if}
use Rattle.mx_open.proofs.kinds.has_no_members.Goals as goal

pub returns-in-Some : goal.returns-in-Some
returns-in-Some c = no_members_if (view c.args.value.now) c.in-Some.members.now.entries c.is_empty.result c.in-Some.ensures c.is_empty.ensures
