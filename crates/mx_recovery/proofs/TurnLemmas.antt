-- What changes that were made in turn leave.
use Rattle.std.proofs.Common.{◌≡◌, inr, ⊎_elim, ℕ, ◌+◌, ◌-◌, ◌≤◌, arith, List, [], ◌∷◌, ◌++◌, length, take, Option, Some, None, IfSome, refl, sym, ◌∙◌, ap, subst, length-append, append_assoc}
use Rattle.std.specs.Prelude.{All, Ok, Err}
use Rattle.std.specs.List.{flat_map}
use Rattle.std.proofs.lemmas.List.Elements.{All-head, All-tail}
use Rattle.mx_store.specs.declared.change.Change.{Change}
use Rattle.mx_store.specs.declared.change.Change.TheVariants.{Create, Put, Delete}
use Rattle.mx_store.specs.Calls.{with_change}
use Rattle.mx_store.specs.Objects.{Objects, objects_of, after_all}
use Rattle.mx_folder.proofs.NamedLemmas.{after_all-append}
use Rattle.mx_folder.specs.Pending.{left_by, recovery_changes}
use Rattle.mx_world.specs.declared.error.ChangeError.{ChangeError}
use Rattle.mx_world.specs.declared.error.ChangeError.TheVariants.{InDoubt, Changed, StoreFault, NoMemory}
use Rattle.mx_world.specs.declared.mirror.Mirror.{Mirror}
use Rattle.mx_world.specs.Mirror.{IsPlain}
use Rattle.mx_world.specs.State.{Shown, Standing, standing, CountsOne, IsLastAfter, Stands, StaysValid, Changes}
use Rattle.mx_world.specs.Turns.{AreMade, StopsAt, MayMakeInTurn, MayChangeInTurn}
use Rattle.mx_recovery.specs.Recovering.{Opens, IsOpened, IsOpenedUntold, IsFront, IsLast, IsRefused, IsSettled}
use Rattle.mx_recovery.specs.Planning.{IsDeletion, IsPlanOf, why_of}
use Rattle.mx_recovery.specs.declared.error.OpenFailed.{OpenFailed}
use Rattle.mx_recovery.specs.declared.plan.Plan.{Plan}
use Rattle.mx_recovery.proofs.LeftLemmas.{all_may_go, may_in_turn, settled_by}

-- ---- deletes are plain

plain_one : (change : Change) → IsDeletion change → IsPlain change
plain_one (Create path bytes) is = absurd is
plain_one (Put path bytes) is = absurd is
plain_one (Delete path) is = is

pub plain_all : (changes : List Change) → All IsDeletion changes → All IsPlain changes
plain_all changes are = λ k d within. plain_one _ (are k d within)

-- ---- what they leave

counted : (journal : Option (List Change)) (j : List Change) (before after : ℕ) → journal ≡ Some j → CountsOne journal before after → after ≡ before + 1
counted None j before after is counts = absurd (cc is)
counted (Some journal) j before after is counts = counts

longer : (journal : Option (List Change)) (j : List Change) (change : Change) → journal ≡ Some j → with_change journal change ≡ Some (j ++ change ∷ [])
longer journal j change is = ap (λ (x : Option (List Change)). with_change x change) is

abbrev pub LeavesMade : List Change → Standing → Standing → List Change → Type 0
LeavesMade changes before after j = (after.journal ≡ Some (j ++ changes)) × (after.applied ≡ before.applied + length changes) × (after.doubt ≡ before.doubt)

append_nil : (j : List Change) → j ++ [] ≡ j
append_nil [] = refl
append_nil (c ∷ j) = ap (λ (l : List Change). c ∷ l) (append_nil j)

pub made_told : (changes : List Change) (before after : Standing) (j : List Change) → before.journal ≡ Some j → before.doubt ≡ None → AreMade changes before after → LeavesMade changes before after j
made_told [] before after j told sure same =
    (ap (λ (s : Standing). s.journal) same ∙ told ∙ ap (λ (l : List Change). Some l) (sym (append_nil j)), ap (λ (s : Standing). s.applied) same ∙ omega arith, ap (λ (s : Standing). s.doubt) same)
made_told (change ∷ changes) before after j told sure (during, one, more) =
    let journal : during.journal ≡ Some (j ++ change ∷ []) = one.journal ∙ longer before.journal j change told in
    let rest = made_told changes during after (j ++ change ∷ []) journal one.doubt more in
    let count : during.applied ≡ before.applied + 1 = counted before.journal j before.applied during.applied told one.applied in (
      rest.0 ∙ ap (λ (l : List Change). Some l) (append_assoc j (change ∷ []) changes),
      (let all = rest.1 in omega (arith, all, count)),
      rest.2 ∙ one.doubt ∙ sym sure,
    )

last_kept : (change : Change) → IsDeletion change → (last after : ℕ) → IsLastAfter last change after → after ≡ last
last_kept (Create path bytes) is last after drawn = absurd is
last_kept (Put path bytes) is last after drawn = absurd is
last_kept (Delete path) is last after drawn = drawn

pub made_last : (changes : List Change) → All IsDeletion changes → (before after : Standing) → AreMade changes before after → after.last ≡ before.last
made_last [] are before after same = ap (λ (s : Standing). s.last) same
made_last (change ∷ changes) are before after (during, one, more) =
    made_last changes (All-tail IsDeletion change changes are) during after more ∙ last_kept change (All-head IsDeletion change changes are) before.last during.last one.last

pub made_untold : (changes : List Change) (before after : Standing) → before.journal ≡ None → before.doubt ≡ None → AreMade changes before after → (after.journal ≡ None) × (after.doubt ≡ None)
made_untold [] before after untold sure same = (ap (λ (s : Standing). s.journal) same ∙ untold, ap (λ (s : Standing). s.doubt) same ∙ sure)
made_untold (change ∷ changes) before after untold sure (during, one, more) = made_untold changes during after (one.journal ∙ ap (λ (x : Option (List Change)). with_change x change) untold) one.doubt more

-- ---- at the beginning

pub may_recover : (now : ℕ) (journal : Option (List Change)) (plan : Plan) (doubt : Option Change) (last : ℕ) (changes : List Change) → doubt ≡ None → last ≡ plan.last → changes ≡ plan.changes → IfSome journal (λ j. IsPlanOf now (objects_of j) plan)
    → MayMakeInTurn journal doubt last changes
may_recover now None plan doubt last changes sure same are planned = tt
may_recover now (Some j) plan (Some other) last changes sure same are planned = absurd (cc sure)
may_recover now (Some j) plan None last changes sure same are planned =
    subst (MayChangeInTurn j last) (sym (are ∙ planned.changes))
    (may_in_turn j (objects_of j) last refl (flat_map left_by planned.pendings) (all_may_go (objects_of j) planned.opens planned.pendings planned.pending.each))

pub made_sure : (changes : List Change) (before after : Standing) → before.doubt ≡ None → AreMade changes before after → after.doubt ≡ None
made_sure [] before after sure same = ap (λ (s : Standing). s.doubt) same ∙ sure
made_sure (change ∷ changes) before after sure (during, one, more) = made_sure changes during after one.doubt more

pub stands_valid : (opening journal : Option (List Change)) (m : Mirror) (last applied : ℕ) (doubt : Option Change) → doubt ≡ None → Stands opening journal m last applied doubt → StaysValid opening journal
stands_valid None journal m last applied doubt sure stands = stands
stands_valid (Some opening) None m last applied doubt sure stands = absurd stands
stands_valid (Some opening) (Some journal) m last applied (Some change) sure stands = absurd (cc sure)
stands_valid (Some opening) (Some journal) m last applied None sure stands = stands.valid

-- ---- where all were made

objects_after : (j changes : List Change) → objects_of (j ++ changes) ≡ after_all (objects_of j) changes
objects_after j changes = after_all-append _ j changes

opened_told : (now : ℕ) (j : List Change) (plan : Plan) (before after : Standing) → IsPlanOf now (objects_of j) plan → All IsDeletion plan.changes → before.journal ≡ Some j → before.doubt ≡ None → before.applied ≡ 0 → before.last ≡ plan.last
    → AreMade plan.changes before after → IsOpened now j after
opened_told now j plan before after planned are told sure fresh last made =
    let left = made_told plan.changes before after j told sure made in record {
      opens = planned.opens;
      pendings = planned.pendings;
      pending = planned.pending;
      journal = left.0 ∙ ap (λ (cs : List Change). Some (j ++ cs)) planned.changes;
      applied = (let all = left.1 in omega (arith, all, fresh)) ∙ ap (λ (cs : List Change). length cs) planned.changes;
      sure = left.2 ∙ sure;
      last = subst (IsLast now (objects_of j)) (sym (made_last plan.changes are before after made ∙ last)) planned.last;
      settled =
          subst (λ (o : Objects). IsSettled (objects_of j) o) (sym (objects_after j (recovery_changes (objects_of j) planned.pendings)))
          (settled_by (objects_of j) planned.opens planned.pendings planned.pending);
    }

abbrev pub OpensAs : ℕ → Option (List Change) → Standing → Type 0
OpensAs now None after = IsOpenedUntold now after
OpensAs now (Some opening) after = IsOpened now opening after

pub opened : (now : ℕ) (journal : Option (List Change)) (plan : Plan) (before after : Standing) → IfSome journal (λ j. IsPlanOf now (objects_of j) plan) → All IsDeletion plan.changes → now - 1 ≤ plan.last → before.journal ≡ journal → before.doubt ≡ None → before.applied ≡ 0
    → before.last ≡ plan.last → AreMade plan.changes before after → OpensAs now journal after
opened now None plan before after planned are from told sure fresh last made =
    let left = made_untold plan.changes before after told sure made in
    let kept = made_last plan.changes are before after made ∙ last in record { journal = left.0; sure = left.1; least = omega (arith, kept, from) }
opened now (Some j) plan before after planned are from told sure fresh last made = opened_told now j plan before after planned are told sure fresh last made

-- ---- where it ended before

taken_front : (front behind : List Change) → take (length front) (front ++ behind) ≡ front
taken_front [] behind = refl
taken_front (c ∷ front) behind = ap (λ (l : List Change). c ∷ l) (taken_front front behind)

taken_one : (front : List Change) (change : Change) (behind : List Change) → take (length front + 1) (front ++ change ∷ behind) ≡ front ++ change ∷ []
taken_one front change behind =
    ap (λ (n : ℕ). take n (front ++ change ∷ behind)) (sym (length-append front (change ∷ [])))
    ∙ ap (take (length (front ++ change ∷ []))) (sym (append_assoc front (change ∷ []) behind))
    ∙ taken_front (front ++ change ∷ []) behind

abbrev pub StopsAs : Option (List Change) → Standing → ChangeError → Type 0
StopsAs None after error = after.journal ≡ None
StopsAs (Some opening) after error = IsRefused opening after.journal (why_of error)

module _ (now : ℕ) (j : List Change) (plan : Plan) (planned : IsPlanOf now (objects_of j) plan) (before after : Standing) (told : before.journal ≡ Some j) (sure : before.doubt ≡ None) where
  front : (count : ℕ) (made : List Change) → after.journal ≡ Some (j ++ made) → take count plan.changes ≡ made → IsFront j after.journal
  front count made is taken = record {
    opens = planned.opens;
    pendings = planned.pendings;
    pending = planned.pending;
    count = count;
    journal = is ∙ ap (λ (cs : List Change). Some (j ++ cs)) (sym taken) ∙ ap (λ (cs : List Change). Some (j ++ take count cs)) planned.changes;
  }

  stopped : (error : ChangeError) → StopsAt plan.changes before after error → IsRefused j after.journal (why_of error)
  stopped error at = from error at.stopped
    where
      left : LeavesMade at.front before at.during j
      left = made_told at.front before at.during j told sure at.made

      same : after.journal ≡ at.during.journal → IsFront j after.journal
      same is = front (length at.front) at.front (is ∙ left.0) (ap (take (length at.front)) at.splits ∙ taken_front at.front (at.change ∷ at.behind))

      one : after.journal ≡ with_change at.during.journal at.change → IsFront j after.journal
      one is =
          front (length at.front + 1) (at.front ++ at.change ∷ []) (is ∙ longer at.during.journal (j ++ at.front) at.change left.0 ∙ ap (λ (l : List Change). Some l) (append_assoc j at.front (at.change ∷ [])))
          (ap (take (length at.front + 1)) at.splits ∙ taken_one at.front at.change at.behind)

      from : (error : ChangeError) → Changes at.change at.during after (Err error) → IsRefused j after.journal (why_of error)
      from (InDoubt path) blocked = inr (same (ap (λ (s : Standing). s.journal) blocked.same))
      from (Changed path) refused = absurd (cc (sym left.0 ∙ refused.untold))
      from StoreFault failed = ⊎_elim (λ (is : after.journal ≡ at.during.journal). inr (same is)) (λ (is : after.journal ≡ with_change at.during.journal at.change). inr (one is)) failed.journal
      from NoMemory kept = inr (same (ap (λ (s : Standing). s.journal) kept))

untold_stopped : (changes : List Change) (before after : Standing) (error : ChangeError) → before.journal ≡ None → before.doubt ≡ None → StopsAt changes before after error → after.journal ≡ None
untold_stopped changes before after error untold sure at = from error at.stopped
  where
    left : at.during.journal ≡ None
    left = (made_untold at.front before at.during untold sure at.made).0

    from : (error : ChangeError) → Changes at.change at.during after (Err error) → after.journal ≡ None
    from (InDoubt path) blocked = ap (λ (s : Standing). s.journal) blocked.same ∙ left
    from (Changed path) refused = refused.journal
    from StoreFault failed = ⊎_elim (λ (is : after.journal ≡ at.during.journal). is ∙ left) (λ (is : after.journal ≡ with_change at.during.journal at.change). is ∙ ap (λ (x : Option (List Change)). with_change x at.change) left) failed.journal
    from NoMemory kept = ap (λ (s : Standing). s.journal) kept ∙ left

pub stops : (now : ℕ) (journal : Option (List Change)) (plan : Plan) (before after : Standing) (error : ChangeError) → IfSome journal (λ j. IsPlanOf now (objects_of j) plan) → before.journal ≡ journal → before.doubt ≡ None → StopsAt plan.changes before after error
    → StopsAs journal after error
stops now None plan before after error planned told sure at = untold_stopped plan.changes before after error told sure at
stops now (Some j) plan before after error planned told sure at = stopped now j plan planned before after told sure error at

-- ---- the same of what is handed out

module _ {S : Type 0} (f : S → Option (List Change)) (now : ℕ) where
  pub opens_ok : (before : Option (List Change)) (world : Shown S) → OpensAs now before (standing f world) → Opens f now before (Ok world)
  opens_ok None world is = is
  opens_ok (Some j) world is = is

  pub opens_err : (before : Option (List Change)) (failed : OpenFailed S) (after : Standing) (error : ChangeError) → f failed.store ≡ after.journal → failed.why ≡ why_of error → StopsAs before after error → Opens f now before (Err failed)
  opens_err None failed after error same why is = same ∙ is
  opens_err (Some j) failed after error same why is = subst (λ (x : Option (List Change)). IsRefused j x failed.why) (sym same) (subst (IsRefused j after.journal) (sym why) is)
