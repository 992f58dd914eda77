use Rattle.mx_folder.proofs.BeginLemmas.{new_valid, none_completed}
use Rattle.mx_folder.proofs.laws.a_new_table_is_valid.Goals as goal

pub returns-clause-valid : goal.returns-clause-valid
returns-clause-valid c schema is = new_valid schema is

pub returns-clause-fresh : goal.returns-clause-fresh
returns-clause-fresh c schema at = none_completed schema at
