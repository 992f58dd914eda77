use Rattle.std.proofs.Common.{◌≡◌, ℕ, List, ◌∙◌, sym, ap, rules, map}
use Rattle.std.specs.Map.Iter.{deref_pair}
use Rattle.std.proofs.lemmas.Map.Iter.{iter_end}
use Rattle.std.proofs.lemmas.Simd.{map-map}
use Rattle.mx_ask.specs.declared.reply.FileSize.{FileSize}
use Rattle.mx_model.specs.Answer.{file_sizes}
use Rattle.mx_lists.proofs.TreeLemmas.{entries-tree}
use Rattle.mx_model.proofs.maps.names_and_sizes.Goals as goal

abbrev file_size : List ℕ × ℕ → FileSize
file_size e = record { name = e.0; size = e.1 }

pub returns : goal.returns
returns c =
    let all : map deref_pair c.loop-name.yielded ≡ c.tree.result.now.entries = search (rules, iter_end) in
    let kept = entries-tree c.tree.result.now c.iter-name-items.ensures.ordered in
    c.loop-name.invariant
    ∙ sym (map-map file_size deref_pair c.loop-name.yielded)
    ∙ ap (map file_size) (all ∙ sym kept)
    ∙ ap file_sizes c.tree.ensures
