use Rattle.std.proofs.Common.{◌≡◌, ◌∙◌, ℕ, List, ap, sym, rules, Some, None}
use Rattle.std.specs.BTreeMap as tree
use Rattle.std.specs.BTreeMap.{BTreeMap}
use Rattle.std.specs.Ordering.{nat_cmp}
use Rattle.std.specs.Cmp.Lexicographic.{slice_cmp}
use Rattle.std.specs.FinMap as finmap
use Rattle.std.proofs.lemmas.Result.{on_ok_weaker, on_err_weaker}
use Rattle.mx_merge.specs.Shown.{SizeMap}
use Rattle.mx_model.proofs.TreeLemmas.{grown-tree, same_tree}
use Rattle.mx_model.proofs.maps.Maps.insert.Goals as goal

pub returns-in-Some-clause-ok : goal.returns-in-Some-clause-ok
returns-in-Some-clause-ok c =
    let sizes = c.insert.new.self in
    on_ok_weaker c.insert.result (λ (grown : sizes ≡ finmap.insert c.in-Some.sizes.now c.args.name c.args.size).
    grown-tree c.self.inside.partitions c.args.self.now c.self.view_is (c.get_mut.follows.lender sizes) c.args.partition c.args.name c.args.size (Some c.in-Some.sizes.now) sizes
    c.in-Some.ensures.value grown ((c.get_mut.follows.holds sizes).3 (search rules)))
    c.insert.ensures.ok

pub returns-in-Some-clause-err : goal.returns-in-Some-clause-err
returns-in-Some-clause-err c =
    let sizes = c.insert.new.self in
    on_err_weaker c.insert.result (λ (unchanged : sizes ≡ c.in-Some.sizes.now).
    same_tree c.self.inside.partitions c.args.self.now c.self.view_is (c.get_mut.follows.lender sizes) c.args.partition c.in-Some.sizes.now sizes
    c.in-Some.ensures.value unchanged (c.get_mut.follows.holds sizes).0)
    c.insert.ensures.err

pub returns-clause-ok : goal.returns-clause-ok
returns-clause-ok c =
    let old = c.get_mut.follows.lender-at-none in
    let new = c.insert-2.new.self in
    let same : old ≡ c.self.inside.partitions = c.get_mut.follows.holds-at-none in
    let view_is = ap (λ (m : BTreeMap (List ℕ) SizeMap). finmap.from_entries {R = slice_cmp nat_cmp} m.entries) same ∙ c.self.view_is in
    let none : None ≡ tree.get (slice_cmp nat_cmp) old c.args.partition =
    c.in_default.ensures.value ∙ ap (λ (m : BTreeMap (List ℕ) SizeMap). tree.get (slice_cmp nat_cmp) m c.args.partition) (sym same) in
    grown-tree old c.args.self.now view_is c.insert-3.new.self c.args.partition c.args.name c.args.size None new none
    (c.in_ok-insert.ensures.ok ∙ ap (λ (s : SizeMap). finmap.insert s c.args.name c.args.size) c.new-sizes.ensures)
    c.in_ok-insert-2.ensures.updates
