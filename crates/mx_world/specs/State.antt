-- How a store and its mirror stand, with a change whose fate may not be known.
use Rattle.std.specs.Prelude.{◌≡◌, ◌⊎◌, ℕ, ◌+◌, Bool, true, false, List, [], ◌∷◌, ◌++◌, ◌≤◌, length, take, Option, Some, None, IfSome, IsOk, Result, Ok, Err}
use Rattle.mx_store.specs.declared.change.Change.{Change}
use Rattle.mx_store.specs.declared.change.Change.TheVariants.{Create, Put, Delete}
use Rattle.mx_store.specs.declared.store.StoreError.{StoreError}
use Rattle.mx_store.specs.declared.store.StoreError.TheVariants as stored
use Rattle.mx_store.specs.Calls.{with_change, Rose, Reads}
use Rattle.mx_store.specs.Journal.{IsAllowed}
use Rattle.mx_store.specs.Objects.{objects_of, EachSince}
use Rattle.mx_folder.specs.Folder.{IsValidTable}
use Rattle.mx_world.specs.declared.asking.Outcome.{Outcome}
use Rattle.mx_world.specs.declared.asking.Outcome.TheVariants as outcome
use Rattle.mx_world.specs.declared.asking.Outcome.TheVariants.{Made, Declined, Failed}
use Rattle.mx_world.specs.declared.error.ChangeError.{ChangeError}
use Rattle.mx_world.specs.declared.error.ChangeError.TheVariants.{InDoubt, Changed, StoreFault, NoMemory}
use Rattle.mx_world.specs.declared.mirror.Mirror.{Mirror}
use Rattle.mx_world.specs.Instants.{NamesInstant, AreUpto, IsDrawnBy}
use Rattle.mx_world.specs.Mirror.{IsMirrorOf, IsPlain}

-- what a store with its mirror is to its callers
pub record Shown (S : Type 0) : Type 0 where
  pub store : S
  pub mirror : Mirror
  pub last : ℕ
  pub applied : ℕ
  pub doubt : Option Change

abbrev pub path_of : Change → List ℕ
path_of (Create path bytes) = path
path_of (Put path bytes) = path
path_of (Delete path) = path

-- the last instant once the change was asked for
abbrev pub IsLastAfter : ℕ → Change → ℕ → Type 0
IsLastAfter last (Create path bytes) after = IsDrawnBy path last after
IsLastAfter last (Put path bytes) after = after ≡ last
IsLastAfter last (Delete path) after = after ≡ last

-- what the change makes has a name of no greater instant
abbrev pub NamesUpto : ℕ → Change → Type 0
NamesUpto last (Create path bytes) = (at : ℕ) → NamesInstant path at → at ≤ last
NamesUpto last (Put path bytes) = (at : ℕ) → NamesInstant path at → at ≤ last
NamesUpto last (Delete path) = Unit {0}

-- the change may be made on what the journal leaves: it is allowed, it makes no name of an instant above the last one, and a
-- valid table stays one
pub record MayChange (journal : List Change) (last : ℕ) (change : Change) : Type 0 where
  pub allowed : IsAllowed (objects_of journal) change
  pub instants : NamesUpto last change
  pub keeps : IsValidTable (objects_of journal) → IsValidTable (objects_of (journal ++ change ∷ []))

-- what holds while each change's fate is known
pub record Holds (opening journal : List Change) (mirror : Mirror) (last applied : ℕ) : Type 0 where
  pub begins : take (length opening) journal ≡ opening
  pub count : length journal ≡ length opening + applied
  pub mirror_is : IsMirrorOf (objects_of journal) mirror
  pub instants : AreUpto last (objects_of journal)
  pub valid : IsValidTable (objects_of opening) → EachSince IsValidTable (length opening) journal

-- what holds while a change is in doubt: so it was before it, and the change is the last of the journal or was not made
pub record HoldsInDoubt (opening journal : List Change) (mirror : Mirror) (last applied : ℕ) (change : Change) : Type 0 where
  pub before : List Change
  pub holds : Holds opening before mirror last applied
  pub plain : IsPlain change
  pub may : MayChange before last change
  pub either : (journal ≡ before) ⊎ (journal ≡ before ++ change ∷ [])

abbrev pub Outcomes : List Change → List Change → Mirror → ℕ → ℕ → Option Change → Type 0
Outcomes opening journal mirror last applied None = Holds opening journal mirror last applied
Outcomes opening journal mirror last applied (Some change) = HoldsInDoubt opening journal mirror last applied change

-- the same where the store tells its journal
abbrev pub IsKept : Option (List Change) → Option (List Change) → Mirror → ℕ → ℕ → Option Change → Type 0
IsKept None journal mirror last applied doubt = (journal ≡ None) × IfSome doubt IsPlain
IsKept (Some opening) None mirror last applied doubt = ⊥
IsKept (Some opening) (Some journal) mirror last applied doubt = Outcomes opening journal mirror last applied doubt

-- every prefix since the opening is a valid table, where the opening was one
abbrev pub StaysValid : Option (List Change) → Option (List Change) → Type 0
StaysValid None journal = journal ≡ None
StaysValid (Some opening) None = ⊥
StaysValid (Some opening) (Some journal) = IsValidTable (objects_of opening) → EachSince IsValidTable (length opening) journal

-- the mirror, the instants and the count are those of the journal, where it is told and no change is in doubt
abbrev pub Stands : Option (List Change) → Option (List Change) → Mirror → ℕ → ℕ → Option Change → Type 0
Stands (Some opening) (Some journal) mirror last applied None = Holds opening journal mirror last applied
Stands (Some opening) (Some journal) mirror last applied (Some change) = Unit {0}
Stands (Some opening) None mirror last applied doubt = ⊥
Stands None journal mirror last applied doubt = journal ≡ None

-- what became of a change, by the answer of the store
abbrev pub outcome_of : Result Bool StoreError → Outcome
outcome_of (Ok true) = Made
outcome_of (Ok false) = Declined
outcome_of (Err stored.Failed) = Failed
outcome_of (Err stored.NoMemory) = outcome.NoMemory

-- the change was made or declined, or failed so that it is not known which
abbrev pub Makes : Change → Option (List Change) → Option (List Change) → Outcome → Type 0
Makes change before after Made = after ≡ with_change before change
Makes change before after Declined = IfSome before (λ journal. ¬ (IsAllowed (objects_of journal) change)) × (after ≡ before)
Makes change before after Failed = (after ≡ before) ⊎ (after ≡ with_change before change)
Makes change before after outcome.NoMemory = after ≡ before

-- a change fails only where the count rose, and any other outcome leaves it
abbrev pub CountsOutcome : ℕ → ℕ → Outcome → Type 0
CountsOutcome before now Made = now ≡ before
CountsOutcome before now Declined = now ≡ before
CountsOutcome before now Failed = Rose before now
CountsOutcome before now outcome.NoMemory = now ≡ before

-- what is answered where the store declines: a create is refused, and a delete has nothing to do
abbrev pub Declines : Change → Result Unit ChangeError → Type 0
Declines (Create path bytes) result = result ≡ Err (Changed path)
Declines (Put path bytes) result = ⊥
Declines (Delete path) result = IsOk result

-- what a get finds shows that the change was applied
abbrev pub IsDone : Change → Option (List ℕ) → Type 0
IsDone (Create path bytes) found = found ≡ Some bytes
IsDone (Put path bytes) found = found ≡ Some bytes
IsDone (Delete path) found = found ≡ None

-- ---- one change

-- what a caller sees of it
pub record Standing : Type 0 where
  pub journal : Option (List Change)
  pub last : ℕ
  pub applied : ℕ
  pub doubt : Option Change

abbrev pub standing : {S : Type 0} → (S → Option (List Change)) → Shown S → Standing
standing journal w = record { journal = journal w.store; last = w.last; applied = w.applied; doubt = w.doubt }

-- the journal and the last instant allow the change, where they are known
abbrev pub MayMake : Option (List Change) → Option Change → ℕ → Change → Type 0
MayMake None doubt last change = Unit {0}
MayMake (Some journal) (Some other) last change = Unit {0}
MayMake (Some journal) None last change = (after : ℕ) → IsLastAfter last change after → MayChange journal after change

-- one more was applied, where the journal is told
abbrev pub CountsOne : Option (List Change) → ℕ → ℕ → Type 0
CountsOne None before after = (after ≡ before) ⊎ (after ≡ before + 1)
CountsOne (Some journal) before after = after ≡ before + 1

-- the change was made
pub record IsMade (change : Change) (before after : Standing) : Type 0 where
  pub sure : before.doubt ≡ None
  pub journal : after.journal ≡ with_change before.journal change
  pub last : IsLastAfter before.last change after.last
  pub applied : CountsOne before.journal before.applied after.applied
  pub doubt : after.doubt ≡ None

-- the change failed: it was made, or nothing was, and which is not known
pub record IsLeftInDoubt (change : Change) (before after : Standing) : Type 0 where
  pub sure : before.doubt ≡ None
  pub journal : (after.journal ≡ before.journal) ⊎ (after.journal ≡ with_change before.journal change)
  pub last : IsLastAfter before.last change after.last
  pub applied : after.applied ≡ before.applied
  pub doubt : after.doubt ≡ Some change

-- a create found something, which no store does that tells
pub record IsRefused (change : Change) (path : List ℕ) (before after : Standing) : Type 0 where
  pub sure : before.doubt ≡ None
  pub untold : before.journal ≡ None
  pub path_is : path ≡ path_of change
  pub journal : after.journal ≡ None
  pub last : IsLastAfter before.last change after.last
  pub applied : after.applied ≡ before.applied
  pub doubt : after.doubt ≡ None

-- a change is in doubt, whose path is named
pub record IsBlocked (path : List ℕ) (before after : Standing) : Type 0 where
  pub change : Change
  pub doubt : before.doubt ≡ Some change
  pub path_is : path ≡ path_of change
  pub same : after ≡ before

-- what a change does, by its answer
abbrev pub Changes : Change → Standing → Standing → Result Unit ChangeError → Type 0
Changes change before after (Ok x) = IsMade change before after
Changes change before after (Err (InDoubt path)) = IsBlocked path before after
Changes change before after (Err (Changed path)) = IsRefused change path before after
Changes change before after (Err StoreFault) = IsLeftInDoubt change before after
Changes change before after (Err NoMemory) = after ≡ before

-- StoreFault only where the count rose, and any other answer leaves it
abbrev pub CountsFaults : ℕ → ℕ → Result Unit ChangeError → Type 0
CountsFaults before now (Ok x) = now ≡ before
CountsFaults before now (Err (InDoubt path)) = now ≡ before
CountsFaults before now (Err (Changed path)) = now ≡ before
CountsFaults before now (Err StoreFault) = Rose before now
CountsFaults before now (Err NoMemory) = now ≡ before

-- the doubt is settled, or all is as before
abbrev pub Settles : Standing → Standing → Result Unit StoreError → Type 0
Settles before after (Ok x) = (after.doubt ≡ None) × (after.journal ≡ before.journal) × (after.last ≡ before.last) × (before.doubt ≡ None → after ≡ before)
Settles before after (Err e) = after ≡ before

-- the doubt's path is read once
abbrev pub ReadsDoubt : Option Change → Option (List (List ℕ)) → Option (List (List ℕ)) → Result Unit StoreError → Type 0
ReadsDoubt None before after result = after ≡ before
ReadsDoubt (Some change) before after result = Reads (path_of change) before after result
