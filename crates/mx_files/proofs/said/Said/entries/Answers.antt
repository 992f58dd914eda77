use Rattle.std.proofs.Common.{◌≡◌, ◌∙◌, ℕ, List, sym, ap, subst, arith, rules, map}
use Rattle.std.specs.FinMap as finmap
use Rattle.std.specs.List.{AllByRecursion}
use Rattle.std.specs.Map.Iter.{deref_pair}
use Rattle.std.proofs.lemmas.Grind.{common_steps}
use Rattle.std.proofs.lemmas.List.Elements.{All-push, All-map, recursion_from_All}
use Rattle.std.proofs.lemmas.Map.Iter.{iter_end}
use Rattle.std.proofs.lemmas.Simd.{map-map}
use Rattle.mx_payload.specs.Rules.{IsWellFormed}
use Rattle.mx_files.specs.Delta.{WordMap}
use Rattle.mx_files.specs.Said.{SaidMap, payload_of_key, entry_of}
use Rattle.mx_lists.proofs.TreeLemmas.{entries-tree}
use Rattle.mx_files.proofs.said.Said.entries.Goals as goal

abbrev HasPayload : List ℕ × WordMap → Type 0
HasPayload e = IsWellFormed (payload_of_key e)

pub loop-key-preserved : goal.loop-key-preserved
loop-key-preserved c = record {
  entries = grind (arith, common_steps);
  fits = All-push (λ e. IsWellFormed (payload_of_key (e.0.now, e.1.now))) c.loop-key.yielded (c.in-Some.key, c.in-Some.words) c.loop-key.invariant.fits c.in_ok-entry.ensures.fits;
}

pub returns-clause-entries : goal.returns-clause-entries
returns-clause-entries c =
    let all : map deref_pair c.loop-key.yielded ≡ c.self.inside.words.entries = search (rules, iter_end) in
    let kept = entries-tree c.self.inside.words c.iter-key-items.ensures.ordered in
    c.loop-key.invariant.entries
    ∙ sym (map-map entry_of deref_pair c.loop-key.yielded)
    ∙ ap (map entry_of) (all ∙ sym kept)
    ∙ ap (λ (m : SaidMap). map entry_of (finmap.entries m)) c.self.view_is

pub returns-clause-fits : goal.returns-clause-fits
returns-clause-fits c =
    let all : map deref_pair c.loop-key.yielded ≡ c.self.inside.words.entries = search (rules, iter_end) in
    let kept = entries-tree c.self.inside.words c.iter-key-items.ensures.ordered in
    let is = all ∙ sym kept ∙ ap (λ (m : SaidMap). finmap.entries m) c.self.view_is in
    subst (λ (es : List (List ℕ × WordMap)). AllByRecursion HasPayload es) is
    (recursion_from_All HasPayload (map deref_pair c.loop-key.yielded) (All-map HasPayload deref_pair c.loop-key.yielded c.loop-key.invariant.fits))
