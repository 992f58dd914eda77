use Rattle.mx_folder.proofs.LooseLemmas.{loose_keeps}
use Rattle.mx_folder.proofs.laws.loose_changes_keep_a_table.Goals as goal

pub returns : goal.returns
returns c old new path differ loose valid may = loose_keeps old new path differ loose valid may
