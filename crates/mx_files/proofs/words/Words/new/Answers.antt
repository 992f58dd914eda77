use Rattle.mx_lists.proofs.TreeLemmas.{tree-empty}
use Rattle.mx_files.proofs.RuleLemmas.{long_none}
use Rattle.mx_files.proofs.words.Words.new.Goals as goal

pub invariant_of-result : goal.invariant_of-result
invariant_of-result c = long_none _ (tree-empty c.new.result c.new.ensures.empty)
