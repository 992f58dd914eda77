use Rattle.std.proofs.Common.{◌≡◌, ◌++◌, ◌∷◌, [], rules}
use Rattle.mx_open.specs.Leaving.{logs_in}
use Rattle.mx_open.proofs.LeavingLemmas.{log_added}
use Rattle.mx_open.proofs.pending.add_log.Goals as goal

pub returns : goal.returns
returns c =
    let grown : c.push.new.self ≡ logs_in c.args.logs.now c.args.at ++ c.args.path.now ∷ [] = search rules in
    log_added c.args.at c.args.path.now c.args.logs.now c.take_logs-paths.new.logs c.insert.new.self c.push.new.self grown c.take_logs-paths.ensures.others c.in_ok-insert.ensures.updates
