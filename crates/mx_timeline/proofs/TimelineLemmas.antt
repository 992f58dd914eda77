-- What the sets of a timeline say of the names.
use Rattle.std.proofs.Common.{◌≡◌, ◌⊎◌, ⊎_elim, ℕ, true, List, Option, None, sym, subst, inl, inr}
use Rattle.std.specs.BTreeSet.{contains}
use Rattle.std.specs.Ordering.{nat_cmp}
use Rattle.std.proofs.lemmas.Bool.{false_from_ne_true}
use Rattle.mx_base.specs.declared.object_name.ActionKind.{ActionKind}
use Rattle.mx_base.specs.declared.object_name.ActionKind.TheVariants.{Commit, Clean, Rollback, Indexing}
use Rattle.mx_timeline.specs.declared.stages.Stages.{Stages}
use Rattle.mx_timeline.specs.declared.timeline.Timeline.{Timeline}
use Rattle.mx_timeline.specs.Timeline.{IsLeftPending, IsCompleted, IsUnfinished, IsPending, IsSettled, IsFrontier, IsNewest, IsLeast, IsGreatest}
use Rattle.mx_timeline.specs.Stages.{Pends, IsUpto, lesser}
use Rattle.mx_timeline.specs.Keeping.{AreStages, IsTimelineOf}
use Rattle.mx_timeline.proofs.LeastLemmas.{least-lesser, least-as, greatest-as, below-least, least-below}

-- what pends in the sets is pending by the names
pub pends_to : (names : List (List ℕ)) (kind : ActionKind) (stages : Stages) → AreStages names kind stages → (at : ℕ) → Pends stages at → IsLeftPending names kind at
pends_to names kind stages are at h = (are.begun at h.0, λ stands. let yes : contains nat_cmp stages.completed at ≡ true = are.all_completed at stands in absurd (cc (h.1, yes)))

pub pends_from : (names : List (List ℕ)) (kind : ActionKind) (stages : Stages) → AreStages names kind stages → (at : ℕ) → IsLeftPending names kind at → Pends stages at
pends_from names kind stages are at h = (are.all_begun at h.0, false_from_ne_true (contains nat_cmp stages.completed at) (λ yes. h.1 (are.completed at yes)))

-- the least that pends is the least pending one
pub least_pending_is : (names : List (List ℕ)) (kind : ActionKind) (stages : Stages) (least : Option ℕ) → AreStages names kind stages → IsLeast (Pends stages) least → IsLeast (IsLeftPending names kind) least
least_pending_is names kind stages least are is = least-as (Pends stages) (IsLeftPending names kind) least (pends_to names kind stages are) (pends_from names kind stages are) is

-- the least of the pending commits and cleans
pub unfinished_is : (names : List (List ℕ)) (timeline : Timeline) (commit clean bound : Option ℕ) → IsTimelineOf names timeline → IsLeast (Pends timeline.commits) commit → IsLeast (Pends timeline.cleans) clean → bound ≡ lesser commit clean
    → IsLeast (IsUnfinished names) bound
unfinished_is names timeline commit clean bound is one other bound_is = subst (IsLeast (IsUnfinished names)) (sym bound_is)
    (least-lesser (IsLeftPending names Commit) (IsLeftPending names Clean) commit clean (least_pending_is names Commit timeline.commits commit is.commits one) (least_pending_is names Clean timeline.cleans clean is.cleans other))

-- the greatest up to the least unfinished one is the frontier
pub frontier_is : (names : List (List ℕ)) (bound : Option ℕ) (greatest : ℕ) → IsLeast (IsUnfinished names) bound → IsGreatest (λ at. IsCompleted names at × IsUpto bound at) greatest → IsFrontier names greatest
frontier_is names bound greatest least is = greatest-as (λ at. IsCompleted names at × IsUpto bound at) (λ at. IsCompleted names at × IsSettled names at) greatest
    (λ at h. (h.0, λ other pending. below-least (IsUnfinished names) bound least at h.1 other pending))
    (λ at h. (h.0, least-below (IsUnfinished names) bound least at h.1))
    is

-- with no bound it is the newest
pub newest_is : (names : List (List ℕ)) (greatest : ℕ) → IsGreatest (λ at. IsCompleted names at × IsUpto None at) greatest → IsNewest names greatest
newest_is names greatest is = greatest-as (λ at. IsCompleted names at × IsUpto None at) (IsCompleted names) greatest (λ at h. h.0) (λ at h. (h, tt)) is

-- pending at the instant is pending as one of the four kinds
pub pending_from : (names : List (List ℕ)) (at : ℕ) → IsPending names at → (IsLeftPending names Commit at ⊎ IsLeftPending names Clean at) ⊎ (IsLeftPending names Rollback at ⊎ IsLeftPending names Indexing at)
pending_from names at (Commit, h) = inl (inl h)
pending_from names at (Clean, h) = inl (inr h)
pending_from names at (Rollback, h) = inr (inl h)
pending_from names at (Indexing, h) = inr (inr h)

pub pending_to : (names : List (List ℕ)) (at : ℕ) → (IsLeftPending names Commit at ⊎ IsLeftPending names Clean at) ⊎ (IsLeftPending names Rollback at ⊎ IsLeftPending names Indexing at) → IsPending names at
pending_to names at h = ⊎_elim
    (λ (x : IsLeftPending names Commit at ⊎ IsLeftPending names Clean at). ⊎_elim (λ (y : IsLeftPending names Commit at). (Commit, y)) (λ (y : IsLeftPending names Clean at). (Clean, y)) x)
    (λ (x : IsLeftPending names Rollback at ⊎ IsLeftPending names Indexing at). ⊎_elim (λ (y : IsLeftPending names Rollback at). (Rollback, y)) (λ (y : IsLeftPending names Indexing at). (Indexing, y)) x)
    h
