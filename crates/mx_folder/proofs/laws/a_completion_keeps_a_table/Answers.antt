use Rattle.mx_folder.proofs.CompletionLemmas.{completion_keeps}
use Rattle.mx_folder.proofs.laws.a_completion_keeps_a_table.Goals as goal

pub returns : goal.returns
returns c old new at bytes may stands differ valid = completion_keeps old new at bytes may stands differ valid
