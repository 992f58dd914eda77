use Rattle.mx_folder.proofs.CompletedLemmas.{logged_completed}
use Rattle.mx_folder.proofs.laws.completed_commits_count.Goals as goal

pub returns : goal.returns
returns c objects reads at = logged_completed objects reads at
