use Rattle.mx_open.proofs.LeavingLemmas.{are_pending, ok_both}
use Rattle.mx_open.proofs.pending.pending_commits.Goals as goal

pub returns : goal.returns
returns c objects named =
    ok_both c.all_left.result
    (λ left is rising. are_pending objects c.args.held.now c.args.names.now c.in_ok-completed.completed c.in_ok-instants.instants c.in_ok-logs.logs left named c.in_ok-completed.ensures c.in_ok-instants.ensures c.in_ok-logs.ensures is rising)
    c.all_left.ensures.left c.all_left.ensures.rising
