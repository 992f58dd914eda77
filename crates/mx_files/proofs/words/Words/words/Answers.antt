use Rattle.std.proofs.Common.{◌≡◌, ◌∙◌, All, List, length, sym, ap, subst, arith, rules, map}
use Rattle.std.specs.FinMap as finmap
use Rattle.std.specs.Map.Iter.{deref_pair}
use Rattle.std.proofs.lemmas.Grind.{common_steps}
use Rattle.std.proofs.lemmas.List.Elements.{All-push, recursion_from_All}
use Rattle.std.proofs.lemmas.Map.Iter.{iter_end}
use Rattle.std.proofs.lemmas.Simd.{map-map}
use Rattle.mx_payload.specs.declared.payload.NameWord.{NameWord}
use Rattle.mx_payload.specs.Rules.{IsLong, IsText, AreWords}
use Rattle.mx_files.specs.Delta.{WordMap, word_of}
use Rattle.mx_lists.proofs.TreeLemmas.{entries-tree}
use Rattle.mx_files.proofs.RuleLemmas.{words_keep}
use Rattle.mx_files.proofs.words.Words.words.Goals as goal

abbrev HasText : NameWord → Type 0
HasText word = IsText word.name

pub loop-name-preserved : goal.loop-name-preserved
loop-name-preserved c = record {
  words = grind (arith, common_steps);
  texts = subst (λ (l : List NameWord). All HasText l) (sym c.in_ok-push.ensures.items) (All-push HasText c.loop-name.words.items c.in_ok-word.field-0 c.loop-name.invariant.texts c.in_ok-word.ensures.text);
}

pub returns-clause-words : goal.returns-clause-words
returns-clause-words c =
    let all : map deref_pair c.loop-name.yielded ≡ c.self.inside.sizes.entries = search (rules, iter_end) in
    let kept = entries-tree c.self.inside.sizes c.iter-name-items.ensures.ordered in
    c.from_vec.ensures ∙ c.loop-name.invariant.words
    ∙ sym (map-map word_of deref_pair c.loop-name.yielded)
    ∙ ap (map word_of) (all ∙ sym kept)
    ∙ ap (λ (m : WordMap). map word_of (finmap.entries m)) c.self.view_is

pub returns-clause-fits : goal.returns-clause-fits
returns-clause-fits c =
    let count : IsLong (length c.loop-name.words.items) = search rules in
    let all : map deref_pair c.loop-name.yielded ≡ c.self.inside.sizes.entries = search (rules, iter_end) in
    let kept = entries-tree c.self.inside.sizes c.iter-name-items.ensures.ordered in
    let is = c.loop-name.invariant.words ∙ sym (map-map word_of deref_pair c.loop-name.yielded) ∙ ap (map word_of) (all ∙ sym kept) in
    subst AreWords (sym c.from_vec.ensures)
    (words_keep (finmap.from_entries c.self.inside.sizes.entries) c.loop-name.words.items is (recursion_from_All HasText c.loop-name.words.items c.loop-name.invariant.texts) c.self.invariant count)
