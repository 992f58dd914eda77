use Rattle.std.proofs.Common.{◌≡◌, sym, subst, rules, map, [], ◌∷◌, List, ℕ}
use Rattle.std.specs.Prelude.{Contains, IsTrue}
use Rattle.std.specs.Map.Iter.{deref}
use Rattle.std.specs.BTreeSet.{contains}
use Rattle.std.specs.Ordering.{nat_cmp}
use Rattle.std.proofs.lemmas.List.{map-append}
use Rattle.std.proofs.lemmas.Map.Iter.{iter_end}
use Rattle.mx_timeline.specs.Timeline.{IsGreatest}
use Rattle.mx_timeline.specs.Stages.{IsUpto}
use Rattle.mx_timeline.proofs.LeastLemmas.{greatest-step, greatest-as}
use Rattle.mx_timeline.proofs.StageLemmas.{has-key, key-has}
use Rattle.mx_timeline.proofs.stages.Stages.greatest_upto.Goals as goal

pub loop-at-preserved : goal.loop-at-preserved
loop-at-preserved c =
    subst (λ (ys : List ℕ). IsGreatest (λ q. Contains ys q × IsUpto c.args.bound.now q) c.greater_upto-greatest.result) (sym (map-append deref c.loop-at.yielded (c.in-Some.at ∷ [])))
    (greatest-step c.args.bound.now (map deref c.loop-at.yielded) c.in-Some.at.now c.loop-at.greatest c.greater_upto-greatest.result
    c.greater_upto-greatest.ensures.within c.greater_upto-greatest.ensures.beyond c.loop-at.invariant)

pub returns : goal.returns
returns c =
    let all : map deref c.loop-at.yielded ≡ c.args.self.now.completed.keys = search (rules, iter_end) in
    greatest-as (λ q. Contains (map deref c.loop-at.yielded) q × IsUpto c.args.bound.now q) (λ q. IsTrue (contains nat_cmp c.args.self.now.completed q) × IsUpto c.args.bound.now q) c.loop-at.greatest
    (λ q h. (key-has c.args.self.now.completed q (subst (λ (ks : List ℕ). Contains ks q) all h.0), h.1))
    (λ q h. (subst (λ (ks : List ℕ). Contains ks q) (sym all) (has-key c.args.self.now.completed q h.0), h.1))
    c.loop-at.invariant
