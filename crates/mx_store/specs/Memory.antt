-- A store in memory, whose calls fail by their numbers.
use Rattle.std.specs.Prelude.{◌≡◌, ◌==◌, ℕ, ◌+◌, ◌-◌, ◌^◌, min, List, [], ◌∷◌, ◌++◌, find, reverse, option_map, Bool, true, false, Option, Some, None, Result, Ok, Err, IsErrOf}
use Rattle.std.specs.BTreeMap as tree
use Rattle.std.specs.BTreeMap.{BTreeMap}
use Rattle.std.specs.Ordering.{nat_cmp}
use Rattle.std.specs.Cmp.Lexicographic.{slice_cmp}
use Rattle.mx_store.specs.declared.change.Change.{Change}
use Rattle.mx_store.specs.declared.memory.Failure.{Failure}
use Rattle.mx_store.specs.declared.store.StoreError.{StoreError}
use Rattle.mx_store.specs.declared.store.StoreError.TheVariants.{Failed, NoMemory}
use Rattle.mx_store.specs.Objects.{at_path, objects_of}

-- what it is to its callers
pub record Seen : Type 0 where
  pub changes : List Change
  pub reads : List (List ℕ)
  pub failures : List Failure
  pub calls : ℕ
  pub faults : ℕ

-- the map holds what the changes leave
abbrev pub Mirrors : BTreeMap (List ℕ) (List ℕ) → List Change → Type 0
Mirrors objects changes = (q : List ℕ) → tree.get (slice_cmp nat_cmp) objects q ≡ at_path (objects_of changes) q

-- whether the call of that number is to fail, and then whether its change is applied: the last entry of the number says
abbrev pub fate : List Failure → ℕ → Option Bool
fate failures call = option_map (λ failure. failure.applied) (find (λ failure. failure.call == call) (reverse failures))

-- the number of the next call
abbrev pub next_call : ℕ → ℕ
next_call calls = min (calls + 1) (2 ^ 64 - 1)

-- a call fails exactly where it is to
abbrev pub MeetsFate : {T : Type 0} → Option Bool → Result T StoreError → Type 0
MeetsFate None (Ok x) = Unit {0}
MeetsFate None (Err Failed) = ⊥
MeetsFate None (Err NoMemory) = Unit {0}
MeetsFate (Some applied) (Ok x) = ⊥
MeetsFate (Some applied) (Err e) = Unit {0}

-- what a change that is allowed or not adds to the journal where it fails
abbrev pub added_by_failing : Option Bool → Bool → Change → List Change
added_by_failing (Some true) true change = change ∷ []
added_by_failing (Some true) false change = []
added_by_failing (Some false) allowed change = []
added_by_failing None allowed change = []

-- a call is counted, what the store was told stays, and the call fails exactly where it is to
pub record FailsByNumber {T : Type 0} (old new : Seen) (result : Result T StoreError) : Type 0 where
  pub calls : new.calls ≡ next_call old.calls
  pub failures : new.failures ≡ old.failures
  pub fate : MeetsFate (fate old.failures old.calls) result

-- a change that fails is applied exactly where it is to and is allowed
abbrev pub AppliesByFate : {T : Type 0} → Bool → Change → Seen → Seen → Result T StoreError → Type 0
AppliesByFate allowed change old new result = IsErrOf result Failed → new.changes ≡ old.changes ++ added_by_failing (fate old.failures old.calls) allowed change
