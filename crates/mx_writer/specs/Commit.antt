-- What a commit does to a table.
use Rattle.std.specs.Prelude.{◌≡◌, ◌≢◌, ◌⊎◌, ℕ, ◌+◌, ◌-◌, ◌^◌, ◌<◌, ◌≤◌, min, List, All, length, Option, Some, None, IfSome, Result, Ok, Err}
use Rattle.mx_ask.specs.declared.ask.FileRows.{FileRows}
use Rattle.mx_ask.specs.declared.reply.Limit.TheVariants.{Files, Rows, Instants, Live}
use Rattle.mx_base.specs.Paths.{group_name}
use Rattle.mx_commit.specs.declared.written.Written.{Written}
use Rattle.mx_commit.specs.declared.new_file.NewFile.{NewFile}
use Rattle.mx_commit.specs.Written.{written_file, AreWritten, AreApartFiles, IsFirstDouble, asked_group}
use Rattle.mx_commit.specs.Made.{new_files, first_too_large}
use Rattle.mx_commit.specs.Changes.{IsPlanOf}
use Rattle.mx_folder.specs.Files.{IsSchemaOf}
use Rattle.mx_groups.specs.Groups.{IsNewestOf, CountsLive}
use Rattle.mx_rows.specs.declared.bad_row.BadRow.{BadRow as Place}
use Rattle.mx_rows.specs.Checks.{FilesFit, HaveDistinct, IsFirstBadRow, IsFirstDoubleRow, first_too_many}
use Rattle.mx_schema.specs.declared.column.Column.{Column}
use Rattle.mx_store.specs.declared.change.Change.{Change}
use Rattle.mx_store.specs.Objects.{Objects, objects_of}
use Rattle.mx_world.specs.declared.error.ChangeError.{ChangeError}
use Rattle.mx_world.specs.declared.error.ChangeError.TheVariants.{NoMemory}
use Rattle.mx_world.specs.Instants.{CountsInstants}
use Rattle.mx_world.specs.State.{Standing, CountsFaults}
use Rattle.mx_world.specs.Turns.{AreMade, StopsAt}
use Rattle.mx_writer.specs.declared.committing.CommitError.{CommitError}
use Rattle.mx_writer.specs.declared.committing.CommitError.TheVariants.{TooMany, DuplicateGroup, BadRow, DuplicateRow, TooLarge, InstantsUsedUp, Stopped}

-- the commit that wrote a file of the group last, none where there is none
abbrev pub IsCommitBefore : Objects → List ℕ → Option ℕ → Type 0
IsCommitBefore objects group None = IsNewestOf objects group 0
IsCommitBefore objects group (Some at) = (at ≢ 0) × IsNewestOf objects group at

-- the entry tells the commit that wrote its group last
abbrev pub TellsBefore : Objects → Written → Type 0
TellsBefore objects w = IsCommitBefore objects (group_name w.partition w.stat.file_id) w.stat.prev_commit

-- the changes are those of a commit of the files' rows at the instant, whose object tells what wrote their groups before
pub record IsCommitOf (schema : List Column) (files : List FileRows) (before : Standing) (at : ℕ) (changes : List Change) : Type 0 where
  pub written : List Written
  pub entries : AreWritten (new_files schema at files) at written
  pub told : IfSome before.journal (λ (j : List Change). All (TellsBefore (objects_of j)) written)
  pub plan : IsPlanOf (new_files schema at files) written at changes

-- the files are sixteen at most, and none has more rows than it may
pub record AreFew (files : List FileRows) : Type 0 where
  pub sixteen : length files ≤ 16
  pub rows : first_too_many files ≡ None

-- the rows may be written: each fits the schema, and no key stands twice in a file; no two files are of one group
pub record HaveGoodRows (schema : List Column) (files : List FileRows) : Type 0 where
  pub few : AreFew files
  pub apart : AreApartFiles asked_group files
  pub fit : FilesFit schema files
  pub distinct : HaveDistinct files

-- the instant that comes next, and the greatest again where none is left
abbrev pub next_after : ℕ → ℕ
next_after last = min (last + 1) (10 ^ 17 - 1)

-- the files may be committed together: their rows are good, and at the next instant none of them is too large
pub record MayBeCommitted (schema : List Column) (last : ℕ) (files : List FileRows) : Type 0 where
  pub good : HaveGoodRows schema files
  pub small : first_too_large (new_files schema (next_after last) files) ≡ None

-- a number as 64 bits tell it
abbrev pub told : ℕ → ℕ
told n = min (2 ^ 64 - 1) n

-- with one instant more, the timeline would have so many
abbrev pub WouldHaveInstants : Objects → ℕ → Type 0
WouldHaveInstants objects count = (n : ℕ) × CountsInstants objects n × (count ≡ told (n + 1))

-- with the files, the table would list so many
abbrev pub WouldList : Objects → List FileRows → ℕ → Type 0
WouldList objects files count = (n : ℕ) × CountsLive objects n × (count ≡ told (n + length files))

-- the timeline has room for one instant more, and the table for the files
pub record HasRoom (objects : Objects) (files : List FileRows) : Type 0 where
  pub instants : ℕ
  pub would_have : WouldHaveInstants objects instants
  pub few_instants : instants ≤ 8192
  pub live : ℕ
  pub would_list : WouldList objects files live
  pub few_files : live ≤ 8192

-- a change was not made, and nothing behind it; or memory was wanted before the first
abbrev pub StopsEarly : List Column → List FileRows → Standing → Standing → ChangeError → Type 0
StopsEarly schema files before after why =
    ((changes : List Change) × IsCommitOf schema files before (before.last + 1) changes × StopsAt changes before after why) ⊎ ((why ≡ NoMemory) × (after ≡ before))

-- why files of a schema are not committed together, in the order in which it is looked for; memory may be wanted to tell it
abbrev pub RefusesFiles : List Column → ℕ → List FileRows → CommitError → Type 0
RefusesFiles schema last files (TooMany Files count) = (count ≡ length files) × (16 < count)
RefusesFiles schema last files (TooMany Rows count) = (length files ≤ 16) × (first_too_many files ≡ Some count)
RefusesFiles schema last files (TooMany Instants count) = ⊥
RefusesFiles schema last files (TooMany Live count) = ⊥
RefusesFiles schema last files (DuplicateGroup partition id) = AreFew files × ((file : FileRows) × IsFirstDouble files file × (partition ≡ file.partition) × (id ≡ file.file))
RefusesFiles schema last files (BadRow place) = AreFew files × AreApartFiles asked_group files × IsFirstBadRow schema files place
RefusesFiles schema last files (DuplicateRow key) = AreFew files × AreApartFiles asked_group files × FilesFit schema files × IsFirstDoubleRow files key
RefusesFiles schema last files (TooLarge bytes) =
    HaveGoodRows schema files × ((size : ℕ) × (first_too_large (new_files schema (next_after last) files) ≡ Some size) × (bytes ≡ told size))
RefusesFiles schema last files InstantsUsedUp = ⊥
RefusesFiles schema last files (Stopped why) = why ≡ NoMemory

-- the next instant is drawn and all changes are made; or the files may not be committed so, or no instant is left, and nothing
-- is; or the changes stop at one of them
abbrev pub Ends : List Column → List FileRows → Standing → Standing → Result ℕ CommitError → Type 0
Ends schema files before after (Ok at) =
    MayBeCommitted schema before.last files × (at ≡ before.last + 1) × (at < 10 ^ 17) × IfSome before.journal (λ (j : List Change). HasRoom (objects_of j) files) × ((changes : List Change) × IsCommitOf schema files before at changes × AreMade changes before after)
Ends schema files before after (Err (TooMany Files count)) = RefusesFiles schema before.last files (TooMany Files count) × (after ≡ before)
Ends schema files before after (Err (TooMany Rows count)) = RefusesFiles schema before.last files (TooMany Rows count) × (after ≡ before)
Ends schema files before after (Err (TooMany Instants count)) =
    MayBeCommitted schema before.last files × (before.last + 1 < 10 ^ 17) × IfSome before.journal (λ (j : List Change). WouldHaveInstants (objects_of j) count) × (8192 < count) × (after ≡ before)
Ends schema files before after (Err (TooMany Live count)) =
    MayBeCommitted schema before.last files × (before.last + 1 < 10 ^ 17) × IfSome before.journal (λ (j : List Change). (n : ℕ) × WouldHaveInstants (objects_of j) n × (n ≤ 8192)) × IfSome before.journal (λ (j : List Change). WouldList (objects_of j) files count) × (8192 < count) × (after ≡ before)
Ends schema files before after (Err (DuplicateGroup partition id)) = RefusesFiles schema before.last files (DuplicateGroup partition id) × (after ≡ before)
Ends schema files before after (Err (BadRow place)) = RefusesFiles schema before.last files (BadRow place) × (after ≡ before)
Ends schema files before after (Err (DuplicateRow key)) = RefusesFiles schema before.last files (DuplicateRow key) × (after ≡ before)
Ends schema files before after (Err (TooLarge bytes)) = RefusesFiles schema before.last files (TooLarge bytes) × (after ≡ before)
Ends schema files before after (Err InstantsUsedUp) = MayBeCommitted schema before.last files × (before.last + 1 ≡ 10 ^ 17) × (after ≡ before)
Ends schema files before after (Err (Stopped why)) = StopsEarly schema files before after why

-- so ends a commit of files whose rows are looked at by the schema of the table
pub record Commits (files : List FileRows) (before after : Standing) (result : Result ℕ CommitError) : Type 0 where
  pub schema : List Column
  pub of_table : IfSome before.journal (λ (j : List Change). IsSchemaOf (objects_of j) schema)
  pub ends : Ends schema files before after result

-- a fault of the store only where the count rose
abbrev pub CountsCommit : ℕ → ℕ → Result ℕ CommitError → Type 0
CountsCommit before now (Ok at) = now ≡ before
CountsCommit before now (Err (TooMany what count)) = now ≡ before
CountsCommit before now (Err (DuplicateGroup partition id)) = now ≡ before
CountsCommit before now (Err (BadRow place)) = now ≡ before
CountsCommit before now (Err (DuplicateRow key)) = now ≡ before
CountsCommit before now (Err (TooLarge bytes)) = now ≡ before
CountsCommit before now (Err InstantsUsedUp) = now ≡ before
CountsCommit before now (Err (Stopped why)) = CountsFaults before now (Err why)

-- ---- for private clauses

-- the entry of the file, with the commit that wrote its group last where the journal is told
abbrev pub IsEntryOf : Option (List Change) → NewFile → ℕ → Written → Type 0
IsEntryOf journal file at written =
    (before : Option ℕ) × (written ≡ written_file file at before) × IfSome journal (λ (j : List Change). IsCommitBefore (objects_of j) (group_name file.partition file.file) before)

-- the entries of the files
abbrev pub AreEntries : Option (List Change) → List NewFile → ℕ → List Written → Type 0
AreEntries journal files at written = AreWritten files at written × IfSome journal (λ (j : List Change). All (TellsBefore (objects_of j)) written)

-- why there is no room; memory may be wanted to tell it
abbrev pub RefusesRoom : Option (List Change) → List FileRows → CommitError → Type 0
RefusesRoom journal files (TooMany Files count) = ⊥
RefusesRoom journal files (TooMany Rows count) = ⊥
RefusesRoom journal files (TooMany Instants count) = IfSome journal (λ (j : List Change). WouldHaveInstants (objects_of j) count) × (8192 < count)
RefusesRoom journal files (TooMany Live count) =
    IfSome journal (λ (j : List Change). (n : ℕ) × WouldHaveInstants (objects_of j) n × (n ≤ 8192)) × IfSome journal (λ (j : List Change). WouldList (objects_of j) files count) × (8192 < count)
RefusesRoom journal files (DuplicateGroup partition id) = ⊥
RefusesRoom journal files (BadRow place) = ⊥
RefusesRoom journal files (DuplicateRow key) = ⊥
RefusesRoom journal files (TooLarge bytes) = ⊥
RefusesRoom journal files InstantsUsedUp = ⊥
RefusesRoom journal files (Stopped why) = why ≡ NoMemory
