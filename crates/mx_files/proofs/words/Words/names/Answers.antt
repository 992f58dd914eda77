use Rattle.std.proofs.Common.{◌≡◌, ◌∙◌, All, List, ℕ, length, sym, ap, subst, arith, rules, map}
use Rattle.std.specs.BTreeMap as tree
use Rattle.std.specs.FinMap as finmap
use Rattle.std.specs.Map.{keys_of}
use Rattle.std.proofs.lemmas.Grind.{common_steps}
use Rattle.std.proofs.lemmas.List.Elements.{All-push, recursion_from_All}
use Rattle.std.proofs.lemmas.Map.Iter.{iter_end}
use Rattle.mx_payload.specs.Rules.{IsLong, IsText, AreWords, plain}
use Rattle.mx_files.specs.Delta.{WordMap}
use Rattle.mx_lists.proofs.TreeLemmas.{entries-tree}
use Rattle.mx_files.proofs.RuleLemmas.{names_keep}
use Rattle.mx_files.proofs.words.Words.names.Goals as goal

pub loop-name-preserved : goal.loop-name-preserved
loop-name-preserved c = record {
  names = grind (arith, common_steps);
  texts = subst (λ (l : List (List ℕ)). All IsText l) (sym c.in_ok-push.ensures.items) (All-push IsText c.loop-name.names.items c.in_ok-copy_of.field-0 c.loop-name.invariant.texts c.in_ok-copy_of.ensures.text);
}

pub returns-clause-names : goal.returns-clause-names
returns-clause-names c =
    let all : map (λ name. name.now) c.loop-name.yielded ≡ tree.keys c.self.inside.sizes = search (rules, iter_end) in
    let kept = entries-tree c.self.inside.sizes c.keys-name-items.ensures.ordered in
    c.from_vec.ensures ∙ c.loop-name.invariant.names ∙ all ∙ ap keys_of (sym kept) ∙ ap (λ (m : WordMap). finmap.keys m) c.self.view_is

pub returns-clause-fits : goal.returns-clause-fits
returns-clause-fits c =
    let count : IsLong (length c.loop-name.names.items) = search rules in
    let all : map (λ name. name.now) c.loop-name.yielded ≡ tree.keys c.self.inside.sizes = search (rules, iter_end) in
    let kept = entries-tree c.self.inside.sizes c.keys-name-items.ensures.ordered in
    let is = c.loop-name.invariant.names ∙ all ∙ ap keys_of (sym kept) in
    subst (λ (l : List (List ℕ)). AreWords (map plain l)) (sym c.from_vec.ensures)
    (names_keep (finmap.from_entries c.self.inside.sizes.entries) c.loop-name.names.items is (recursion_from_All IsText c.loop-name.names.items c.loop-name.invariant.texts) count)
