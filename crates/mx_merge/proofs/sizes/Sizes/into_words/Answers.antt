use Rattle.std.proofs.Common.{◌≡◌, ℕ, List, ◌∙◌, sym, ap, rules, map, false}
use Rattle.mx_payload.specs.declared.payload.NameWord.{NameWord}
use Rattle.mx_merge.specs.Shown.{words_with}
use Rattle.std.proofs.lemmas.List.{map-id}
use Rattle.mx_lists.proofs.TreeLemmas.{entries-tree}
use Rattle.std.proofs.lemmas.Map.Iter.{iter_end}
use Rattle.mx_merge.proofs.sizes.Sizes.into_words.Goals as goal

abbrev word_of : List ℕ × ℕ → NameWord
word_of e = record { name = e.0; size = e.1; deleted = false }

pub returns-clause-words : goal.returns-clause-words
returns-clause-words c =
    let all : map (λ e. e) c.loop-name.yielded ≡ c.self.inside.sizes.entries = search (rules, iter_end) in
    let kept = entries-tree c.self.inside.sizes (search rules) in
    c.loop-name.invariant
    ∙ ap (map word_of) (sym (map-id c.loop-name.yielded) ∙ all ∙ sym kept)
    ∙ ap words_with c.self.view_is
