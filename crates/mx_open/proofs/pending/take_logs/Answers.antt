use Rattle.mx_open.proofs.LeavingLemmas.{log_taken}
use Rattle.mx_open.proofs.pending.take_logs.Goals as goal

pub returns-in-Some-clause-others : goal.returns-in-Some-clause-others
returns-in-Some-clause-others c = log_taken c.args.at c.args.logs.now c.remove.new.self c.remove.ensures.updates
