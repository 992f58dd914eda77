use Rattle.std.proofs.Common.{◌≡◌, ◌∙◌, sym, ap, rules, map}
use Rattle.std.specs.BTreeMap as tree
use Rattle.std.specs.FinMap as finmap
use Rattle.std.specs.Map.{keys_of}
use Rattle.std.proofs.lemmas.Map.Iter.{iter_end}
use Rattle.mx_lists.proofs.TreeLemmas.{entries-tree}
use Rattle.mx_store.specs.Objects.{Objects}
use Rattle.mx_open.proofs.held.Held.paths.Goals as goal

pub returns : goal.returns
returns c =
    let all : map (λ path. path.now) c.loop-path.yielded ≡ tree.keys c.self.inside.objects = search (rules, iter_end) in
    let kept = entries-tree c.self.inside.objects c.keys-path-items.ensures.ordered in
    c.loop-path.invariant ∙ all ∙ ap keys_of (sym kept) ∙ ap (λ (m : Objects). finmap.keys m) c.self.view_is
