use Rattle.mx_model.proofs.MapLemmas.{actions_upto-newest}
use Rattle.mx_model.proofs.laws.all_count_at_newest.Goals as goal

pub returns : goal.returns
returns c = actions_upto-newest c.args.actions.now
