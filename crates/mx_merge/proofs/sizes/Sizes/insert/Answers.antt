use Rattle.std.proofs.Common.{◌∙◌, ap}
use Rattle.std.specs.FinMap as finmap
use Rattle.mx_merge.specs.Shown.{SizeMap}
use Rattle.mx_lists.proofs.TreeLemmas.{tree-insert}
use Rattle.mx_merge.proofs.sizes.Sizes.insert.Goals as goal

pub returns-clause-ok : goal.returns-clause-ok
returns-clause-ok c =
    tree-insert c.self.inside.sizes c.insert.new.self c.args.name c.args.size c.in_ok-insert.ensures.updates
    ∙ ap (λ (m : SizeMap). finmap.insert m c.args.name c.args.size) c.self.view_is
