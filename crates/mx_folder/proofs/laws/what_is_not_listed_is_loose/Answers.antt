use Rattle.mx_folder.proofs.PendingLemmas.{outside_loose}
use Rattle.mx_folder.proofs.laws.what_is_not_listed_is_loose.Goals as goal

pub returns : goal.returns
returns c objects path outer unlisted = outside_loose objects path outer unlisted
