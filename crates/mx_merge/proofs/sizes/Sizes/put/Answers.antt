use Rattle.std.proofs.Common.{◌∙◌, sym, ap, cond, Bool}
use Rattle.std.specs.FinMap as finmap
use Rattle.mx_merge.specs.Shown.{SizeMap}
use Rattle.mx_lists.proofs.TreeLemmas.{tree-remove}
use Rattle.mx_merge.proofs.sizes.Sizes.put.Goals as goal

pub returns-then-word : goal.returns-then-word
returns-then-word c =
    tree-remove c.self.inside.sizes c.remove.new.self c.args.word.name c.remove.ensures.updates
    ∙ ap (λ (m : SizeMap). finmap.remove m c.args.word.name) c.self.view_is
    ∙ ap (λ (b : Bool). cond b (finmap.remove c.args.self.now c.args.word.name) (finmap.insert c.args.self.now c.args.word.name c.args.word.size)) (sym c.if-word.true)
