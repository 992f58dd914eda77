use Rattle.std.proofs.Common.{◌≡◌, ℕ, List}
use Rattle.std.specs.BTreeMap as tree
use Rattle.mx_lists.proofs.TreeLemmas.{R}
use Rattle.mx_payload.specs.Union.{after}
use Rattle.mx_payload.proofs.merging.put_all.Given as goal

abbrev pub invariant-loop-word : goal.invariant-loop-word
invariant-loop-word l = (name : List ℕ) → tree.get R l.states name ≡ after l.yielded name (tree.get R l.fn.states name)
