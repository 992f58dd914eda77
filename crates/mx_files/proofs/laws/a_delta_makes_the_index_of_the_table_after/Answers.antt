use Rattle.mx_files.proofs.DeltaLemmas.{shows_after}
use Rattle.mx_files.proofs.laws.a_delta_makes_the_index_of_the_table_after.Goals as goal

pub returns : goal.returns
returns c = shows_after
