-- How a commit ends, by what its parts answer.
use Rattle.std.proofs.Common.{◌≡◌, arith, inl, inr, ℕ, ◌+◌, ◌^◌, ◌<◌, List, Option, Result, Err, refl, sym, subst}
use Rattle.std.specs.Prelude.{IfSome}
use Rattle.std.specs.Result.{IfErr}
use Rattle.mx_ask.specs.declared.ask.FileRows.{FileRows}
use Rattle.mx_ask.specs.declared.reply.Limit.TheVariants.{Files, Rows, Instants, Live}
use Rattle.mx_folder.specs.Files.{IsSchemaOf}
use Rattle.mx_schema.specs.declared.column.Column.{Column}
use Rattle.mx_store.specs.declared.change.Change.{Change}
use Rattle.mx_store.specs.Objects.{objects_of}
use Rattle.mx_world.specs.State.{Standing}
use Rattle.mx_world.specs.Turns.{StopsAt}
use Rattle.mx_world.specs.declared.error.ChangeError.{ChangeError}
use Rattle.mx_world.specs.declared.error.ChangeError.TheVariants.{NoMemory}
use Rattle.mx_writer.specs.declared.committing.CommitError.{CommitError}
use Rattle.mx_writer.specs.declared.committing.CommitError.TheVariants.{TooMany, DuplicateGroup, BadRow, DuplicateRow, TooLarge, InstantsUsedUp, Stopped}
use Rattle.mx_writer.specs.Commit.{Commits, Ends, IsCommitOf, MayBeCommitted, RefusesFiles, RefusesRoom, next_after}

-- what holds of an error holds of the answer that it is
pub err_from : {T E : Type 0} (r : Result T E) (P : E → Type 0) (e : E) → r ≡ Err e → P e → IfErr r P
err_from r P e is holds = subst (λ x. IfErr x P) (sym is) holds

module _ (schema : List Column) (files : List FileRows) (before after : Standing) (of_table : IfSome before.journal (λ (j : List Change). IsSchemaOf (objects_of j) schema)) where
  ended : (why : CommitError) → Ends schema files before after (Err why) → (r : Result ℕ CommitError) → r ≡ Err why → Commits files before after r
  ended why ends r is = subst (λ (x : Result ℕ CommitError). Commits files before after x) (sym is) (record { schema = schema; of_table = of_table; ends = ends })

  pub refused : (r : Result ℕ CommitError) (why : CommitError) → r ≡ Err why → RefusesFiles schema before.last files why → after ≡ before → Commits files before after r
  refused r (TooMany Files count) is refuses same = ended (TooMany Files count) (refuses, same) r is
  refused r (TooMany Rows count) is refuses same = ended (TooMany Rows count) (refuses, same) r is
  refused r (TooMany Instants count) is refuses same = absurd refuses
  refused r (TooMany Live count) is refuses same = absurd refuses
  refused r (DuplicateGroup partition id) is refuses same = ended (DuplicateGroup partition id) (refuses, same) r is
  refused r (BadRow place) is refuses same = ended (BadRow place) (refuses, same) r is
  refused r (DuplicateRow key) is refuses same = ended (DuplicateRow key) (refuses, same) r is
  refused r (TooLarge bytes) is refuses same = ended (TooLarge bytes) (refuses, same) r is
  refused r InstantsUsedUp is refuses same = absurd refuses
  refused r (Stopped why) is refuses same = ended (Stopped why) (inr (refuses, same)) r is

  pub roomless : (r : Result ℕ CommitError) (why : CommitError) → r ≡ Err why → MayBeCommitted schema before.last files → before.last + 1 < 10 ^ 17 → RefusesRoom before.journal files why → after ≡ before → Commits files before after r
  roomless r (TooMany Files count) is may next refuses same = absurd refuses
  roomless r (TooMany Rows count) is may next refuses same = absurd refuses
  roomless r (TooMany Instants count) is may next refuses same = ended (TooMany Instants count) (may, next, refuses.0, refuses.1, same) r is
  roomless r (TooMany Live count) is may next refuses same = ended (TooMany Live count) (may, next, refuses.0, refuses.1, refuses.2, same) r is
  roomless r (DuplicateGroup partition id) is may next refuses same = absurd refuses
  roomless r (BadRow place) is may next refuses same = absurd refuses
  roomless r (DuplicateRow key) is may next refuses same = absurd refuses
  roomless r (TooLarge bytes) is may next refuses same = absurd refuses
  roomless r InstantsUsedUp is may next refuses same = absurd refuses
  roomless r (Stopped why) is may next refuses same = ended (Stopped why) (inr (refuses, same)) r is

  pub short : (r : Result ℕ CommitError) → r ≡ Err (Stopped NoMemory) → after ≡ before → Commits files before after r
  short r is same = ended (Stopped NoMemory) (inr (refl, same)) r is

  pub stopped : (r : Result ℕ CommitError) (why : ChangeError) (changes : List Change) → r ≡ Err (Stopped why) → IsCommitOf schema files before (before.last + 1) changes → StopsAt changes before after why → Commits files before after r
  stopped r why changes is commit stops = ended (Stopped why) (inl (changes, commit, stops)) r is

pub next_is : (last at : ℕ) → at ≡ last + 1 → at < 10 ^ 17 → next_after last ≡ at
next_is last at is small = grind arith
