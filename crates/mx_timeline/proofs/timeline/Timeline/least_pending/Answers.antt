use Rattle.std.proofs.Common.{◌⊎◌, sym, subst}
use Rattle.mx_base.specs.declared.object_name.ActionKind.TheVariants.{Rollback, Indexing}
use Rattle.mx_timeline.specs.Timeline.{IsLeast, IsLeftPending, IsUnfinished, IsPending}
use Rattle.mx_timeline.proofs.LeastLemmas.{least-lesser, least-as}
use Rattle.mx_timeline.proofs.TimelineLemmas.{unfinished_is, least_pending_is, pending_to, pending_from}
use Rattle.mx_timeline.proofs.timeline.Timeline.least_pending.Goals as goal

pub returns : goal.returns
returns c names is =
    let folded = unfinished_is names c.args.self.now c.least_pending.result c.least_pending-2.result c.lesser-folded.result is c.least_pending.ensures c.least_pending-2.ensures c.lesser-folded.ensures in
    let others = subst (IsLeast (λ at. IsLeftPending names Rollback at ⊎ IsLeftPending names Indexing at)) (sym c.lesser-others.ensures)
    (least-lesser (IsLeftPending names Rollback) (IsLeftPending names Indexing) c.least_pending-3.result c.least_pending-4.result
    (least_pending_is names Rollback c.args.self.now.rollbacks c.least_pending-3.result is.rollbacks c.least_pending-3.ensures) (least_pending_is names Indexing c.args.self.now.indexings c.least_pending-4.result is.indexings c.least_pending-4.ensures)) in
    least-as (λ at. IsUnfinished names at ⊎ (IsLeftPending names Rollback at ⊎ IsLeftPending names Indexing at)) (IsPending names) c.lesser.result (pending_to names) (pending_from names)
    (subst (IsLeast (λ at. IsUnfinished names at ⊎ (IsLeftPending names Rollback at ⊎ IsLeftPending names Indexing at))) (sym c.lesser.ensures)
    (least-lesser (IsUnfinished names) (λ at. IsLeftPending names Rollback at ⊎ IsLeftPending names Indexing at) c.lesser-folded.result c.lesser-others.result folded others))
