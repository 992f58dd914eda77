use Rattle.mx_hfile.proofs.FileLemmas as files
use Rattle.mx_hfile.proofs.reading.one_list.Goals as goal

pub returns : goal.returns
returns c = λ a b good good' le same. files.one_list a b good good' le same
