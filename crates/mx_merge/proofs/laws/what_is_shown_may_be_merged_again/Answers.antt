use Rattle.mx_merge.proofs.ValueLemmas.{merged_again}
use Rattle.mx_merge.proofs.laws.what_is_shown_may_be_merged_again.Goals as goal

pub returns : goal.returns
returns c = merged_again
