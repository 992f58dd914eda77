use Rattle.mx_folder.proofs.PendingLemmas.{pending_file_loose}
use Rattle.mx_folder.proofs.laws.a_pending_file_is_loose.Goals as goal

pub returns : goal.returns
returns c objects at path is pending = pending_file_loose objects at path is pending
