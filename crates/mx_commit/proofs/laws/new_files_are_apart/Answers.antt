use Rattle.mx_commit.proofs.MakingLemmas.{new_apart}
use Rattle.mx_commit.proofs.laws.new_files_are_apart.Goals as goal

pub returns : goal.returns
returns c = λ schema at files apart. new_apart schema at files apart
