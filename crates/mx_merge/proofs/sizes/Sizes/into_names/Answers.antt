use Rattle.std.proofs.Common.{◌≡◌, ℕ, List, ◌∙◌, sym, ap, rules, map}
use Rattle.mx_merge.specs.Shown.{SizeMap}
use Rattle.std.specs.FinMap as finmap
use Rattle.std.proofs.lemmas.List.{map-id}
use Rattle.mx_lists.proofs.TreeLemmas.{entries-tree}
use Rattle.std.proofs.lemmas.Map.Iter.{iter_end}
use Rattle.mx_merge.proofs.sizes.Sizes.into_names.Goals as goal

pub returns-clause-names : goal.returns-clause-names
returns-clause-names c =
    let all : map (λ e. e) c.loop-name.yielded ≡ c.self.inside.sizes.entries = search (rules, iter_end) in
    let kept = entries-tree c.self.inside.sizes (search rules) in
    c.loop-name.invariant
    ∙ ap (map (λ (e : List ℕ × ℕ). e.0)) (sym (map-id c.loop-name.yielded) ∙ all ∙ sym kept)
    ∙ ap (λ (s : SizeMap). finmap.keys s) c.self.view_is
