use Rattle.std.proofs.Common.{◌∙◌, sym, ap}
use Rattle.mx_lists.proofs.TreeLemmas.{get-tree}
use Rattle.mx_store.specs.Objects.{Objects, at_path}
use Rattle.mx_open.proofs.held.Held.get.Goals as goal

pub returns : goal.returns
returns c =
    c.get.ensures.value
    ∙ sym (get-tree c.self.inside.objects c.args.path.now)
    ∙ ap (λ (m : Objects). at_path m c.args.path.now) c.self.view_is
