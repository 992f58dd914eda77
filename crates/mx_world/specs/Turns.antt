-- Several changes, one after the other.
use Rattle.std.specs.Prelude.{◌≡◌, ℕ, List, [], ◌∷◌, ◌++◌, Option, Some, None, Result, Ok, Err}
use Rattle.mx_store.specs.declared.change.Change.{Change}
use Rattle.mx_world.specs.declared.error.ChangeError.{ChangeError}
use Rattle.mx_world.specs.State.{IsLastAfter, MayChange, Standing, IsMade, Changes}

-- each change may be made on what the ones before it leave
abbrev pub MayChangeInTurn : List Change → ℕ → List Change → Type 0
MayChangeInTurn journal last [] = Unit {0}
MayChangeInTurn journal last (change ∷ changes) = (after : ℕ) → IsLastAfter last change after → MayChange journal after change × MayChangeInTurn (journal ++ change ∷ []) after changes

-- the journal and the last instant allow the changes, where they are known
abbrev pub MayMakeInTurn : Option (List Change) → Option Change → ℕ → List Change → Type 0
MayMakeInTurn None doubt last changes = Unit {0}
MayMakeInTurn (Some journal) (Some other) last changes = Unit {0}
MayMakeInTurn (Some journal) None last changes = MayChangeInTurn journal last changes

-- each change was made, in this order
abbrev pub AreMade : List Change → Standing → Standing → Type 0
AreMade [] before after = after ≡ before
AreMade (change ∷ changes) before after = (during : Standing) × IsMade change before during × AreMade changes during after

-- the changes in front of one were made, and at this one it ended
pub record StopsAt (changes : List Change) (before after : Standing) (error : ChangeError) : Type 0 where
  pub front : List Change
  pub change : Change
  pub behind : List Change
  pub splits : changes ≡ front ++ change ∷ behind
  pub during : Standing
  pub made : AreMade front before during
  pub stopped : Changes change during after (Err error)

-- what changes in turn do, by the answer
abbrev pub ChangesInTurn : List Change → Standing → Standing → Result Unit ChangeError → Type 0
ChangesInTurn changes before after (Ok x) = AreMade changes before after
ChangesInTurn changes before after (Err error) = StopsAt changes before after error
