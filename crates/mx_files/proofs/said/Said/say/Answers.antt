use Rattle.std.proofs.Common.{◌≡◌, ◌∙◌, ℕ, List, ap, sym, rules, Some, None}
use Rattle.std.specs.BTreeMap as tree
use Rattle.std.specs.BTreeMap.{BTreeMap}
use Rattle.std.specs.FinMap as finmap
use Rattle.mx_files.specs.Delta.{WordMap}
use Rattle.std.proofs.lemmas.Result.{on_ok_weaker}
use Rattle.mx_lists.proofs.TreeLemmas.{R}
use Rattle.mx_files.proofs.SaidLemmas.{with_said-tree}
use Rattle.mx_files.proofs.said.Said.say.Goals as goal

pub returns-in-Some : goal.returns-in-Some
returns-in-Some c =
    let words = c.insert.new.self in
    on_ok_weaker c.insert.result (λ (grown : words ≡ finmap.insert c.in-Some.words.now c.args.name c.args.size).
    with_said-tree c.self.inside.words (c.get_mut.follows.lender words) c.args.self.now c.self.view_is c.args.key c.args.name c.args.size (Some c.in-Some.words.now) words
    c.in-Some.ensures.value grown ((c.get_mut.follows.holds words).3 (search rules)))
    c.insert.ensures

pub returns : goal.returns
returns c =
    let old = c.get_mut.follows.lender-at-none in
    let new = c.insert-2.new.self in
    let same : old ≡ c.self.inside.words = c.get_mut.follows.holds-at-none in
    let view_is = ap (λ (m : BTreeMap (List ℕ) WordMap). finmap.from_entries {R = R} m.entries) same ∙ c.self.view_is in
    let none : None ≡ tree.get R old c.args.key = c.in_default.ensures.value ∙ ap (λ (m : BTreeMap (List ℕ) WordMap). tree.get R m c.args.key) (sym same) in
    with_said-tree old c.insert-3.new.self c.args.self.now view_is c.args.key c.args.name c.args.size None new none
    (c.in_ok-insert.ensures ∙ ap (λ (w : WordMap). finmap.insert w c.args.name c.args.size) c.new-words.ensures)
    c.in_ok-insert-2.ensures.updates
