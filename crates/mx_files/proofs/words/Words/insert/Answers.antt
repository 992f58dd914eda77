use Rattle.std.proofs.Common.{◌∙◌, ap, sym, subst}
use Rattle.std.specs.FinMap as finmap
use Rattle.mx_files.specs.Delta.{WordMap}
use Rattle.mx_files.specs.Said.{AreLong}
use Rattle.mx_lists.proofs.TreeLemmas.{tree-insert}
use Rattle.mx_files.proofs.RuleLemmas.{long_insert}
use Rattle.mx_files.proofs.words.Words.insert.Goals as goal

pub invariant_of-self-2 : goal.invariant_of-self-2
invariant_of-self-2 c =
    let grown = tree-insert c.self.inside.sizes c.insert.new.self c.args.name c.args.size c.in_ok-insert.ensures.updates in
    subst AreLong (sym grown) (long_insert (finmap.from_entries c.self.inside.sizes.entries) c.args.name c.args.size c.requires c.self.invariant)

pub returns : goal.returns
returns c =
    tree-insert c.self.inside.sizes c.insert.new.self c.args.name c.args.size c.in_ok-insert.ensures.updates
    ∙ ap (λ (m : WordMap). finmap.insert m c.args.name c.args.size) c.self.view_is
