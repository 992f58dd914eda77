use Rattle.std.proofs.Common.{sym}
use Rattle.mx_open.proofs.LeavingLemmas.{log_kept}
use Rattle.mx_open.proofs.pending.note_log_at.Goals as goal

pub returns : goal.returns
returns c = log_kept c.args.at c.args.path.now c.args.logs.now c.args.instants.now (sym c.if-contains.ensures)
