use Rattle.std.proofs.Common.{◌≡◌, sym, subst, rules, map, [], ◌∷◌, List, ℕ, false}
use Rattle.std.specs.Prelude.{Contains}
use Rattle.std.specs.Map.Iter.{deref}
use Rattle.std.specs.BTreeSet.{contains}
use Rattle.std.specs.Ordering.{nat_cmp}
use Rattle.std.proofs.lemmas.List.{map-append}
use Rattle.std.proofs.lemmas.Map.Iter.{iter_end}
use Rattle.mx_timeline.specs.Timeline.{IsLeast}
use Rattle.mx_timeline.specs.Stages.{Pends}
use Rattle.mx_timeline.proofs.LeastLemmas.{least-step, least-as}
use Rattle.mx_timeline.proofs.StageLemmas.{has-key, key-has}
use Rattle.mx_timeline.proofs.stages.Stages.least_pending.Goals as goal

pub loop-at-preserved : goal.loop-at-preserved
loop-at-preserved c =
    subst (λ (ys : List ℕ). IsLeast (λ q. Contains ys q × (contains nat_cmp c.args.self.now.completed q ≡ false)) c.lesser_pending-least.result) (sym (map-append deref c.loop-at.yielded (c.in-Some.at ∷ [])))
    (least-step (contains nat_cmp c.args.self.now.completed) (map deref c.loop-at.yielded) c.in-Some.at.now c.loop-at.least c.lesser_pending-least.result
    c.lesser_pending-least.ensures.completed c.lesser_pending-least.ensures.pending c.loop-at.invariant)

pub returns : goal.returns
returns c =
    let all : map deref c.loop-at.yielded ≡ c.args.self.now.begun.keys = search (rules, iter_end) in
    least-as (λ q. Contains (map deref c.loop-at.yielded) q × (contains nat_cmp c.args.self.now.completed q ≡ false)) (Pends c.args.self.now) c.loop-at.least
    (λ q h. (key-has c.args.self.now.begun q (subst (λ (ks : List ℕ). Contains ks q) all h.0), h.1))
    (λ q h. (subst (λ (ks : List ℕ). Contains ks q) (sym all) (has-key c.args.self.now.begun q h.0), h.1))
    c.loop-at.invariant
