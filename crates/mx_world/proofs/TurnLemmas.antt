-- Changes in turn, one after the other.
use Rattle.std.proofs.Common.{ℕ, List, [], ◌∷◌, Option, Some, None, refl, sym, ap, subst}
use Rattle.std.specs.Prelude.{Result, Ok, Err}
use Rattle.mx_store.specs.declared.change.Change.{Change}
use Rattle.mx_store.specs.Calls.{with_change}
use Rattle.mx_world.specs.declared.error.ChangeError.{ChangeError}
use Rattle.mx_world.specs.State.{MayMake, Standing, IsMade, Changes}
use Rattle.mx_world.specs.Turns.{MayMakeInTurn, ChangesInTurn}

-- the first change may be made
pub may_now : (journal : Option (List Change)) (doubt : Option Change) (last : ℕ) (change : Change) (changes : List Change) → MayMakeInTurn journal doubt last (change ∷ changes) → MayMake journal doubt last change
may_now None doubt last change changes may = tt
may_now (Some journal) (Some other) last change changes may = tt
may_now (Some journal) None last change changes may = λ after is. let both = may after is in both.0

-- and then the others
pub may_then : (before during : Standing) (change : Change) (changes : List Change) → IsMade change before during → MayMakeInTurn before.journal before.doubt before.last (change ∷ changes) → MayMakeInTurn during.journal during.doubt during.last changes
may_then before during change changes made may =
    subst (λ (d : Option Change). MayMakeInTurn during.journal d during.last changes) (sym made.doubt)
    (subst (λ (j : Option (List Change)). MayMakeInTurn j None during.last changes) (sym made.journal)
    (from before.journal (subst (λ (d : Option Change). MayMakeInTurn before.journal d before.last (change ∷ changes)) made.sure may)))
  where
    from : (journal : Option (List Change)) → MayMakeInTurn journal None before.last (change ∷ changes) → MayMakeInTurn (with_change journal change) None during.last changes
    from None may = tt
    from (Some journal) may = let both = may during.last made.last in both.1

-- a change that was made, and then what the others do
pub turns_more : (before during after : Standing) (change : Change) (changes : List Change) (result : Result Unit ChangeError) → IsMade change before during → ChangesInTurn changes during after result → ChangesInTurn (change ∷ changes) before after result
turns_more before during after change changes (Ok x) made turns = (during, made, turns)
turns_more before during after change changes (Err error) made turns = record {
  front = change ∷ turns.front;
  change = turns.change;
  behind = turns.behind;
  splits = ap (λ (cs : List Change). change ∷ cs) turns.splits;
  during = turns.during;
  made = (during, made, turns.made);
  stopped = turns.stopped;
}

-- the first change is the one that is not made
pub turns_stop : (before after : Standing) (change : Change) (changes : List Change) (error : ChangeError) → Changes change before after (Err error) → ChangesInTurn (change ∷ changes) before after (Err error)
turns_stop before after change changes error stopped = record { front = []; change = change; behind = changes; splits = refl; during = before; made = refl; stopped = stopped }
