use Rattle.std.proofs.Common.{◌≡◌, ◌∙◌, map, sym, ap, rules}
use Rattle.std.specs.BTreeMap as tree
use Rattle.std.specs.FinMap as finmap
use Rattle.std.specs.Map.{keys_of}
use Rattle.std.proofs.lemmas.Map.Iter.{iter_end}
use Rattle.mx_files.specs.Files.{FilesMap}
use Rattle.mx_lists.proofs.TreeLemmas.{entries-tree}
use Rattle.mx_model.proofs.maps.Maps.partitions.Goals as goal

pub returns : goal.returns
returns c =
    let all : map (λ name. name.now) c.loop-partition.yielded ≡ tree.keys c.self.inside.partitions = search (rules, iter_end) in
    let kept = entries-tree c.self.inside.partitions c.keys-partition-items.ensures.ordered in
    c.loop-partition.invariant ∙ all ∙ ap keys_of (sym kept) ∙ ap (λ (m : FilesMap). finmap.keys m) c.self.view_is
