-- What holds of a store and its mirror after each answer.
use Rattle.std.proofs.Common.{◌≡◌, ◌≢◌, ◌⊎◌, inl, inr, ⊎_elim, ℕ, ◌+◌, ◌≤◌, arith, List, [], ◌∷◌, ◌++◌, length, take, Option, Some, None, IsSome, IfSome, refl, sym, ◌∙◌, ap, subst, length-append}
use Rattle.std.specs.Prelude.{Result, Ok, Err}
use Rattle.std.specs.FinMap as finmap
use Rattle.std.proofs.lemmas.List.{take-append-le}
use Rattle.mx_store.specs.declared.change.Change.{Change}
use Rattle.mx_store.specs.declared.change.Change.TheVariants.{Create, Put, Delete}
use Rattle.mx_store.specs.Calls.{with_change, Finds}
use Rattle.mx_store.specs.Journal.{Begins, IsAllowed}
use Rattle.mx_store.specs.Objects.{Objects, at_path, apply, objects_of, EachSince}
use Rattle.mx_store.proofs.Journal.{objects_of-push, EachSince-push}
use Rattle.mx_store.proofs.Longer.{EachSince-now}
use Rattle.mx_store.proofs.Paths.{cases_path, at_same, at_other, at_removed, at_left}
use Rattle.mx_folder.specs.Folder.{IsValidTable}
use Rattle.mx_folder.proofs.NamedLemmas.{some_or_none}
use Rattle.mx_world.specs.declared.mirror.Mirror.{Mirror}
use Rattle.mx_world.specs.Instants.{NamesInstant, AreUpto}
use Rattle.mx_world.specs.Mirror.{IsMirrorOf, IsPlain}
use Rattle.mx_world.specs.declared.error.ChangeError.{ChangeError}
use Rattle.mx_world.specs.declared.error.ChangeError.TheVariants.{Changed}
use Rattle.mx_world.specs.State.{Declines, Standing, Changes, CountsOne, CountsFaults, NamesUpto, MayChange, Holds, Outcomes, IsKept, StaysValid, IsLastAfter, MayMake, IsDone, path_of}
use Rattle.mx_world.proofs.MirrorLemmas.{mirror_same, back_same}

-- ---- what a create made is taken away again

pub taken_back : (o : Objects) (path bytes : List ℕ) (m : Mirror) → at_path o path ≡ None → IsMirrorOf (finmap.remove (finmap.insert o path bytes) path) m → IsMirrorOf o m
taken_back o path bytes m absent is = mirror_same (finmap.remove (finmap.insert o path bytes) path) o m (back_same o path bytes absent) is

-- ---- the instants of names

upto_after : (o : Objects) (last : ℕ) (change : Change) → AreUpto last o → NamesUpto last change → AreUpto last (apply change o)
upto_after o last (Create path bytes) upto named q at stands names = ⊎_elim
    (λ (same : q ≡ path). named at (subst (λ (x : List ℕ). NamesInstant x at) same names))
    (λ (other : q ≢ path). upto q at (subst IsSome (at_other o path bytes q other) stands) names)
    (cases_path q path)
upto_after o last (Put path bytes) upto named q at stands names = ⊎_elim
    (λ (same : q ≡ path). named at (subst (λ (x : List ℕ). NamesInstant x at) same names))
    (λ (other : q ≢ path). upto q at (subst IsSome (at_other o path bytes q other) stands) names)
    (cases_path q path)
upto_after o last (Delete path) upto named q at stands names = ⊎_elim
    (λ (same : q ≡ path). absurd (some_or_none _ stands (ap (at_path (finmap.remove o path)) same ∙ at_removed o path)))
    (λ (other : q ≢ path). upto q at (subst IsSome (at_left o path q other) stands) names)
    (cases_path q path)

-- ---- the journal is told

-- the last instant may be a later one
holds_later : (opening journal : List Change) (m : Mirror) (last later applied : ℕ) → last ≤ later → Holds opening journal m last applied → Holds opening journal m later applied
holds_later opening journal m last later applied rises holds = record {
  begins = holds.begins;
  count = holds.count;
  mirror_is = holds.mirror_is;
  instants = λ q at stands names. let before = holds.instants q at stands names in omega (arith, before, rises);
  valid = holds.valid;
}

-- another mirror says the same
holds_mirrored : (opening journal : List Change) (m n : Mirror) (last applied : ℕ) → IsMirrorOf (objects_of journal) n → Holds opening journal m last applied → Holds opening journal n last applied
holds_mirrored opening journal m n last applied is holds = record {
  begins = holds.begins;
  count = holds.count;
  mirror_is = is;
  instants = holds.instants;
  valid = holds.valid;
}

opened : (opening journal : List Change) (m : Mirror) (last applied : ℕ) → Holds opening journal m last applied → length opening ≤ length journal
opened opening journal m last applied holds = omega (arith, holds.count)

pushed_valid : (opening journal : List Change) (m : Mirror) (last applied later : ℕ) (change : Change) → Holds opening journal m last applied → MayChange journal later change → IsValidTable (objects_of opening)
    → EachSince IsValidTable (length opening) (journal ++ change ∷ [])
pushed_valid opening journal m last applied later change holds may valid =
    EachSince-push IsValidTable (length opening) journal change (holds.valid valid) (may.keeps (EachSince-now IsValidTable (length opening) journal (opened opening journal m last applied holds) (holds.valid valid)))

-- the change was made
holds_made : (opening journal : List Change) (m n : Mirror) (last applied : ℕ) (change : Change) → Holds opening journal m last applied → MayChange journal last change → IsMirrorOf (apply change (objects_of journal)) n
    → Holds opening (journal ++ change ∷ []) n last (applied + 1)
holds_made opening journal m n last applied change holds may is = record {
  begins = take-append-le (length opening) journal (change ∷ []) (opened opening journal m last applied holds) ∙ holds.begins;
  count = omega (arith, holds.count, length-append journal (change ∷ []));
  mirror_is = subst (λ (o : Objects). IsMirrorOf o n) (sym (objects_of-push journal change)) is;
  instants = subst (AreUpto last) (sym (objects_of-push journal change)) (upto_after (objects_of journal) last change holds.instants may.instants);
  valid = pushed_valid opening journal m last applied last change holds may;
}

-- ---- told or not

pub kept_valid : (opening journal : Option (List Change)) (m : Mirror) (last applied : ℕ) (doubt : Option Change) → IsKept opening journal m last applied doubt → StaysValid opening journal
kept_valid None journal m last applied doubt kept = kept.0
kept_valid (Some opening) None m last applied doubt kept = absurd kept
kept_valid (Some opening) (Some journal) m last applied None kept = kept.valid
kept_valid (Some opening) (Some journal) m last applied (Some change) kept = λ valid. ⊎_elim
    (λ (same : journal ≡ kept.before). subst (EachSince IsValidTable (length opening)) (sym same) (kept.holds.valid valid))
    (λ (one : journal ≡ kept.before ++ change ∷ []). subst (EachSince IsValidTable (length opening)) (sym one) (pushed_valid opening kept.before m last applied last change kept.holds kept.may valid))
    kept.either

pub kept_begins : (opening journal : Option (List Change)) (m : Mirror) (last applied : ℕ) (doubt : Option Change) → IsKept opening journal m last applied doubt → Begins opening journal
kept_begins None journal m last applied doubt kept = kept.0
kept_begins (Some opening) None m last applied doubt kept = absurd kept
kept_begins (Some opening) (Some journal) m last applied None kept = kept.begins
kept_begins (Some opening) (Some journal) m last applied (Some change) kept = ⊎_elim
    (λ (same : journal ≡ kept.before). ap (take (length opening)) same ∙ kept.holds.begins)
    (λ (one : journal ≡ kept.before ++ change ∷ []).
    ap (take (length opening)) one ∙ take-append-le (length opening) kept.before (change ∷ []) (opened opening kept.before m last applied kept.holds) ∙ kept.holds.begins)
    kept.either

-- the mirror was made ready, and says what it said
pub kept_back : (opening journal after : Option (List Change)) (m n : Mirror) (last applied : ℕ) (change : Change) → IsKept opening journal m last applied None → MayMake journal None last change → (l : ℕ) → IsLastAfter last change l
    → ((o : Objects) → IsAllowed o change → IsMirrorOf o m → IsMirrorOf o n) → after ≡ journal → IsKept opening after n last applied None
kept_back None journal after m n last applied change kept may l is back same = (same ∙ kept.0, tt)
kept_back (Some opening) None after m n last applied change kept may l is back same = absurd kept
kept_back (Some opening) (Some journal) after m n last applied change kept may l is back same =
    subst (λ (j : Option (List Change)). IsKept (Some opening) j n last applied None) (sym same)
    (holds_mirrored opening journal m n last applied (let allowed = may l is in back (objects_of journal) allowed.allowed kept.mirror_is) kept)

-- the change was made
pub kept_made : (opening journal after : Option (List Change)) (m n : Mirror) (last later applied : ℕ) (change : Change) → IsKept opening journal m last applied None → MayMake journal None last change → IsLastAfter last change later
    → last ≤ later → ((o : Objects) → IsAllowed o change → IsMirrorOf o m → IsMirrorOf (apply change o) n) → after ≡ with_change journal change → IsKept opening after n later (applied + 1) None
kept_made None None after m n last later applied change kept may is rises made same = (same, tt)
kept_made None (Some journal) after m n last later applied change kept may is rises made same = absurd (cc kept.0)
kept_made (Some opening) None after m n last later applied change kept may is rises made same = absurd kept
kept_made (Some opening) (Some journal) after m n last later applied change kept may is rises made same =
    let allowed = may later is in
    subst (λ (j : Option (List Change)). IsKept (Some opening) j n later (applied + 1) None) (sym same)
    (holds_made opening journal m n later applied change (holds_later opening journal m last later applied rises kept) allowed (made (objects_of journal) allowed.allowed kept.mirror_is))

-- the store declined, as none does that tells
pub kept_declined : (opening journal after : Option (List Change)) (m n : Mirror) (last later applied : ℕ) (change : Change) → IsKept opening journal m last applied None → MayMake journal None last change → IsLastAfter last change later
    → IfSome journal (λ js. ¬ (IsAllowed (objects_of js) change)) → after ≡ journal → (journal ≡ None) × IsKept opening after n later applied None
kept_declined None None after m n last later applied change kept may is never same = (refl, (same, tt))
kept_declined None (Some journal) after m n last later applied change kept may is never same = absurd (cc kept.0)
kept_declined (Some opening) None after m n last later applied change kept may is never same = absurd kept
kept_declined (Some opening) (Some journal) after m n last later applied change kept may is never same = absurd (let allowed = may later is in never allowed.allowed)

-- the change failed
pub kept_failed : (opening journal after : Option (List Change)) (m n : Mirror) (last later applied : ℕ) (change : Change) → IsPlain change → IsKept opening journal m last applied None → MayMake journal None last change → IsLastAfter last change later
    → last ≤ later → ((o : Objects) → IsAllowed o change → IsMirrorOf o m → IsMirrorOf o n) → (after ≡ journal) ⊎ (after ≡ with_change journal change) → IsKept opening after n later applied (Some change)
kept_failed None None after m n last later applied change plain kept may is rises back either = (⊎_elim (λ (same : after ≡ None). same) (λ (same : after ≡ None). same) either, plain)
kept_failed None (Some journal) after m n last later applied change plain kept may is rises back either = absurd (cc kept.0)
kept_failed (Some opening) None after m n last later applied change plain kept may is rises back either = absurd kept
kept_failed (Some opening) (Some journal) after m n last later applied change plain kept may is rises back either =
    let allowed = may later is in
    let holds = holds_later opening journal n last later applied rises (holds_mirrored opening journal m n last applied (back (objects_of journal) allowed.allowed kept.mirror_is) kept) in ⊎_elim
    (λ (same : after ≡ Some journal). subst (λ (j : Option (List Change)). IsKept (Some opening) j n later applied (Some change)) (sym same) (record { before = journal; holds = holds; plain = plain; may = allowed; either = inl refl }))
    (λ (one : after ≡ Some (journal ++ change ∷ [])). subst (λ (j : Option (List Change)). IsKept (Some opening) j n later applied (Some change)) (sym one) (record { before = journal; holds = holds; plain = plain; may = allowed; either = inr refl }))
    either

-- ---- the same of a doubt that is none

module _ (opening journal after : Option (List Change)) (m n : Mirror) (last later applied : ℕ) (change : Change) where
  pub sure_back : (doubt : Option Change) → doubt ≡ None → IsKept opening journal m last applied doubt → MayMake journal doubt last change → IsLastAfter last change later
      → ((o : Objects) → IsAllowed o change → IsMirrorOf o m → IsMirrorOf o n) → after ≡ journal → IsKept opening after n last applied doubt
  sure_back None sure kept may is back same = kept_back opening journal after m n last applied change kept may later is back same
  sure_back (Some other) sure kept may is back same = absurd (cc sure)

  pub sure_made : (doubt : Option Change) → doubt ≡ None → IsKept opening journal m last applied doubt → MayMake journal doubt last change → IsLastAfter last change later → last ≤ later
      → ((o : Objects) → IsAllowed o change → IsMirrorOf o m → IsMirrorOf (apply change o) n) → after ≡ with_change journal change → IsKept opening after n later (applied + 1) doubt
  sure_made None sure kept may is rises made same = kept_made opening journal after m n last later applied change kept may is rises made same
  sure_made (Some other) sure kept may is rises made same = absurd (cc sure)

  pub sure_declined : (doubt : Option Change) → doubt ≡ None → IsKept opening journal m last applied doubt → MayMake journal doubt last change → IsLastAfter last change later
      → IfSome journal (λ js. ¬ (IsAllowed (objects_of js) change)) × (after ≡ journal) → (journal ≡ None) × IsKept opening after n later applied doubt
  sure_declined None sure kept may is never = kept_declined opening journal after m n last later applied change kept may is never.0 never.1
  sure_declined (Some other) sure kept may is never = absurd (cc sure)

  pub sure_failed : (doubt : Option Change) → doubt ≡ None → IsPlain change → IsKept opening journal m last applied doubt → MayMake journal doubt last change → IsLastAfter last change later → last ≤ later
      → ((o : Objects) → IsAllowed o change → IsMirrorOf o m → IsMirrorOf o n) → (after ≡ journal) ⊎ (after ≡ with_change journal change) → IsKept opening after n later applied (Some change)
  sure_failed None sure plain kept may is rises back either = kept_failed opening journal after m n last later applied change plain kept may is rises back either
  sure_failed (Some other) sure plain kept may is rises back either = absurd (cc sure)

-- ---- what a declined change is answered

pub declined_create : (change : Change) (path bytes : List ℕ) → change ≡ Create path bytes → Declines change (Err (Changed path))
declined_create change path bytes is = subst (λ (c : Change). Declines c (Err (Changed path))) (sym is) refl

pub declined_else : (change : Change) → IsPlain change → ((path bytes : List ℕ) → change ≢ Create path bytes) → Declines change (Ok tt)
declined_else (Create path bytes) plain other = absurd (other path bytes refl)
declined_else (Put path bytes) plain other = absurd plain
declined_else (Delete path) plain other = refl

pub changes_declined : (change : Change) (result : Result Unit ChangeError) (before after : Standing) → Declines change result → before.doubt ≡ None → before.journal ≡ None → after.journal ≡ None → IsLastAfter before.last change after.last
    → after.applied ≡ before.applied → after.doubt ≡ None → Changes change before after result
changes_declined (Create path bytes) result before after declines sure untold now last applied doubt =
    subst (λ (r : Result Unit ChangeError). Changes (Create path bytes) before after r) (sym declines)
    (record { sure = sure; untold = untold; path_is = refl; journal = now; last = last; applied = applied; doubt = doubt })
changes_declined (Put path bytes) result before after declines sure untold now last applied doubt = absurd declines
changes_declined (Delete path) (Ok x) before after declines sure untold now last applied doubt = record {
  sure = sure;
  journal = now ∙ sym (ap (λ (j : Option (List Change)). with_change j (Delete path)) untold);
  last = last;
  applied = subst (λ (j : Option (List Change)). CountsOne j before.applied after.applied) (sym untold) (inl applied);
  doubt = doubt;
}
changes_declined (Delete path) (Err e) before after declines sure untold now last applied doubt = absurd (cc declines)

pub counts_declined : (change : Change) (result : Result Unit ChangeError) (before now : ℕ) → Declines change result → now ≡ before → CountsFaults before now result
counts_declined (Create path bytes) result before now declines same = subst (λ (r : Result Unit ChangeError). CountsFaults before now r) (sym declines) same
counts_declined (Put path bytes) result before now declines same = absurd declines
counts_declined (Delete path) (Ok x) before now declines same = same
counts_declined (Delete path) (Err e) before now declines same = absurd (cc declines)

-- ---- a doubt is settled

-- what is in doubt is a create or a delete, of another object than the config
pub doubt_plain : (opening journal : Option (List Change)) (m : Mirror) (last applied : ℕ) (doubt : Option Change) (change : Change) → doubt ≡ Some change → IsKept opening journal m last applied doubt → IsPlain change
doubt_plain None journal m last applied doubt change is kept = subst (λ (d : Option Change). IfSome d IsPlain) is kept.1
doubt_plain (Some opening) None m last applied doubt change is kept = absurd kept
doubt_plain (Some opening) (Some journal) m last applied doubt change is kept = let held = subst (λ (d : Option Change). Outcomes opening journal m last applied d) is kept in held.plain

doubt_back_told : (opening journal : Option (List Change)) (m n : Mirror) (last applied : ℕ) (change : Change) → IsKept opening journal m last applied (Some change) → ((o : Objects) → IsAllowed o change → IsMirrorOf o m → IsMirrorOf o n)
    → IsKept opening journal n last applied (Some change)
doubt_back_told None journal m n last applied change kept back = kept
doubt_back_told (Some opening) None m n last applied change kept back = absurd kept
doubt_back_told (Some opening) (Some journal) m n last applied change kept back = record {
  before = kept.before;
  holds = holds_mirrored opening kept.before m n last applied (back (objects_of kept.before) kept.may.allowed kept.holds.mirror_is) kept.holds;
  plain = kept.plain;
  may = kept.may;
  either = kept.either;
}

-- what is found shows which it was
not_done : (o : Objects) (change : Change) → IsPlain change → IsAllowed o change → IsDone change (at_path o (path_of change)) → ⊥
not_done o (Create path bytes) plain absent done = absurd (cc (sym absent ∙ done))
not_done o (Put path bytes) plain allowed done = plain
not_done o (Delete path) plain present gone = some_or_none _ present gone

done : (o : Objects) (change : Change) → IsPlain change → IsDone change (at_path (apply change o) (path_of change))
done o (Create path bytes) plain = at_same o path bytes
done o (Put path bytes) plain = absurd plain
done o (Delete path) plain = at_removed o path

done_told : (opening journal : Option (List Change)) (m n : Mirror) (last applied : ℕ) (change : Change) (found : Option (List ℕ)) → IsKept opening journal m last applied (Some change) → Finds (path_of change) journal (Ok found) → IsDone change found
    → ((o : Objects) → IsAllowed o change → IsMirrorOf o m → IsMirrorOf (apply change o) n) → IsKept opening journal n last (applied + 1) None
done_told None journal m n last applied change found kept finds is made = (kept.0, tt)
done_told (Some opening) None m n last applied change found kept finds is made = absurd kept
done_told (Some opening) (Some journal) m n last applied change found kept finds is made = ⊎_elim
    (λ (same : journal ≡ kept.before). absurd (not_done (objects_of kept.before) change kept.plain kept.may.allowed (subst (IsDone change) (finds ∙ ap (λ (js : List Change). at_path (objects_of js) (path_of change)) same) is)))
    (λ (one : journal ≡ kept.before ++ change ∷ []). subst (λ (js : List Change). Holds opening js n last (applied + 1)) (sym one) (holds_made opening kept.before m n last applied change kept.holds kept.may (made (objects_of kept.before) kept.may.allowed kept.holds.mirror_is)))
    kept.either

undone_told : (opening journal : Option (List Change)) (m n : Mirror) (last applied : ℕ) (change : Change) (found : Option (List ℕ)) → IsKept opening journal m last applied (Some change) → Finds (path_of change) journal (Ok found) → ¬ (IsDone change found)
    → ((o : Objects) → IsAllowed o change → IsMirrorOf o m → IsMirrorOf o n) → IsKept opening journal n last applied None
undone_told None journal m n last applied change found kept finds never back = (kept.0, tt)
undone_told (Some opening) None m n last applied change found kept finds never back = absurd kept
undone_told (Some opening) (Some journal) m n last applied change found kept finds never back = ⊎_elim
    (λ (same : journal ≡ kept.before). subst (λ (js : List Change). Holds opening js n last applied) (sym same) (holds_mirrored opening kept.before m n last applied (back (objects_of kept.before) kept.may.allowed kept.holds.mirror_is) kept.holds))
    (λ (one : journal ≡ kept.before ++ change ∷ []). absurd (never (subst (IsDone change) (sym (finds ∙ ap (λ (js : List Change). at_path (objects_of js) (path_of change)) one ∙ ap (λ (o : Objects). at_path o (path_of change)) (objects_of-push kept.before change)))
    (done (objects_of kept.before) change kept.plain))))
    kept.either

module _ (opening journal after : Option (List Change)) (m n : Mirror) (last applied : ℕ) (doubt : Option Change) (change : Change) (is : doubt ≡ Some change) (kept : IsKept opening journal m last applied doubt) (same : after ≡ journal) where
  in_doubt : IsKept opening journal m last applied (Some change)
  in_doubt = subst (λ (d : Option Change). IsKept opening journal m last applied d) is kept

  pub settle_back : ((o : Objects) → IsAllowed o change → IsMirrorOf o m → IsMirrorOf o n) → IsKept opening after n last applied doubt
  settle_back back =
      subst (λ (j : Option (List Change)). IsKept opening j n last applied doubt) (sym same)
      (subst (λ (d : Option Change). IsKept opening journal n last applied d) (sym is) (doubt_back_told opening journal m n last applied change in_doubt back))

  pub settle_done : (found : Option (List ℕ)) → Finds (path_of change) journal (Ok found) → IsDone change found → ((o : Objects) → IsAllowed o change → IsMirrorOf o m → IsMirrorOf (apply change o) n) → IsKept opening after n last (applied + 1) None
  settle_done found finds is_done made = subst (λ (j : Option (List Change)). IsKept opening j n last (applied + 1) None) (sym same) (done_told opening journal m n last applied change found in_doubt finds is_done made)

  pub settle_undone : (found : Option (List ℕ)) → Finds (path_of change) journal (Ok found) → ¬ (IsDone change found) → ((o : Objects) → IsAllowed o change → IsMirrorOf o m → IsMirrorOf o n) → IsKept opening after n last applied None
  settle_undone found finds never back = subst (λ (j : Option (List Change)). IsKept opening j n last applied None) (sym same) (undone_told opening journal m n last applied change found in_doubt finds never back)
