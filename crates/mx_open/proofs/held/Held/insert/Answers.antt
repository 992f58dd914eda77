use Rattle.std.proofs.Common.{◌∙◌, ap}
use Rattle.std.specs.FinMap as finmap
use Rattle.mx_lists.proofs.TreeLemmas.{tree-insert}
use Rattle.mx_store.specs.Objects.{Objects}
use Rattle.mx_open.proofs.held.Held.insert.Goals as goal

pub returns-clause-ok : goal.returns-clause-ok
returns-clause-ok c =
    tree-insert c.self.inside.objects c.insert.new.self c.args.path c.args.bytes c.in_ok-insert.ensures.updates
    ∙ ap (λ (m : Objects). finmap.insert m c.args.path c.args.bytes) c.self.view_is
