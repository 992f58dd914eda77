use Rattle.mx_folder.proofs.PendingLemmas.{pending_loose}
use Rattle.mx_folder.proofs.laws.a_pending_commit_is_loose.Goals as goal

pub returns : goal.returns
returns c objects at name is made pending = pending_loose objects at name is made pending
