-- How the program ends.
use Rattle.std.specs.Prelude.{◌≡◌, ◌≢◌, ◌⊎◌, ◌++◌, ◌<◌, ◌^◌, ℕ, String, List, [], length, take, codes, decimal, Option, Some, None, IfSome, OnOk, Result, Ok, Err}
use Rattle.mx_schema.specs.declared.column.Column.{Column}
use Rattle.mx_store.specs.declared.change.Change.{Change}
use Rattle.mx_store.specs.Objects.{objects_of}
use Rattle.mx_store.specs.Streams.{added}
use Rattle.mx_lines.specs.Ahead.{CountsBytes}
use Rattle.mx_lines.specs.Lines.{LinesAreCut, lines_of}
use Rattle.mx_world.specs.State.{Standing}
use Rattle.mx_open.specs.Init.{Inits, IsNewTable}
use Rattle.mx_open.specs.declared.error.InitError.{InitError}
use Rattle.mx_open.specs.declared.error.InitError.TheVariants as init
use Rattle.mx_open.specs.declared.error.ReadError.{ReadError}
use Rattle.mx_open.specs.declared.error.ReadError.TheVariants as read
use Rattle.mx_recovery.specs.Recovering.{IsOpened, IsOpenedUntold, IsRefused}
use Rattle.mx_hub.specs.History.{IsHistory, Moment, printed_replies}
use Rattle.mx_hub.specs.declared.answered.Answered.{Answered}
use Rattle.mx_hub.specs.declared.serving.Ending.{Ending}
use Rattle.mx_hub.specs.declared.serving.Ending.TheVariants as ending
use Rattle.mdt.specs.Words.{IsCommand}
use Rattle.mdt.specs.declared.words.Command.{Command}
use Rattle.mdt.specs.declared.words.Command.TheVariants.{Init, Serve}
use Rattle.mdt.specs.declared.status.Status.{Status}
use Rattle.mdt.specs.declared.status.Status.TheVariants.{Done, NoMemory, Words, SourceFault, SinkFault, StoreFault, NotATable, Damaged, Version, NotEmpty, TooLong}

-- ---- the status

-- of the lines
abbrev pub ending_status : Ending → Status
ending_status ending.Done = Done
ending_status ending.NoMemory = NoMemory
ending_status ending.SourceFault = SourceFault
ending_status ending.SinkFault = SinkFault
ending_status ending.TooLong = TooLong

-- of a table that was not opened
abbrev pub read_status : ReadError → Status
read_status read.NotATable = NotATable
read_status (read.Version found) = Version found
read_status (read.Damaged path) = Damaged path
read_status read.StoreFault = StoreFault
read_status read.NoMemory = NoMemory

-- of a table that was not made
abbrev pub init_status : InitError → Status
init_status (init.NotEmpty path) = NotEmpty path
init_status init.StoreFault = StoreFault
init_status init.NoMemory = NoMemory

abbrev pub made_status : Result Unit InitError → Status
made_status (Ok x) = Done
made_status (Err why) = init_status why

-- the command ended before a line was read
abbrev pub IsEarly : Status → Type 0
IsEarly Done = ⊥
IsEarly NoMemory = ⊥
IsEarly Words = Unit {0}
IsEarly SourceFault = ⊥
IsEarly SinkFault = ⊥
IsEarly StoreFault = Unit {0}
IsEarly NotATable = Unit {0}
IsEarly (Damaged path) = Unit {0}
IsEarly (Version found) = Unit {0}
IsEarly (NotEmpty path) = Unit {0}
IsEarly TooLong = ⊥

-- ---- what a command does

-- a new table of the schema was made, or it was not, with its cause
pub record MakesTable (schema : List Column) (before after : Option (List Change)) (status : Status) : Type 0 where
  pub made : Result Unit InitError
  pub inits : Inits schema before after made
  pub table : OnOk made (IfSome after (λ (journal : List Change). IsNewTable (objects_of journal)))
  pub status_is : status ≡ made_status made

-- the table was opened so, where the store tells its journal or not
abbrev pub IsOpenedAs : ℕ → Option (List Change) → Standing → Type 0
IsOpenedAs now None standing = IsOpenedUntold now standing
IsOpenedAs now (Some opening) standing = IsOpened now opening standing

-- the answers are one history of the lines, from the opened table to what the store is left with
pub record AnswersLines (opening : Option (List Change)) (opened : Moment) (input : Option (List ℕ)) (journal : Option (List Change)) (faults : ℕ) (reads : Option (List (List ℕ))) (status : Status) (answers : List Answered) : Type 0 where
  pub after : Moment
  pub journal_is : journal ≡ after.standing.journal
  pub faults_are : faults ≡ after.faults
  pub reads_are : reads ≡ after.reads
  pub ending : Ending
  pub history : IsHistory opening opened after input ending answers
  pub status_is : status ≡ ending_status ending

-- the table was opened, and the lines were answered
pub record HasServed (now count : ℕ) (opening : Option (List Change)) (input : Option (List ℕ)) (journal : Option (List Change)) (faults : ℕ) (reads : Option (List (List ℕ))) (status : Status) (answers : List Answered) : Type 0 where
  pub opened : Moment
  pub opens : IsOpenedAs now opening opened.standing
  pub no_fault : opened.faults ≡ count
  pub lines : AnswersLines opening opened input journal faults reads status answers

-- the table was not opened, with the cause
pub record IsTurnedAway (opening after : Option (List Change)) (status : Status) (answers : List Answered) : Type 0 where
  pub why : ReadError
  pub cause : IfSome opening (λ (first : List Change). IsRefused first after why)
  pub status_is : status ≡ read_status why
  pub none : answers ≡ []

-- the lines of the input were served, or the table was not opened
abbrev pub Serves : ℕ → ℕ → Option (List Change) → Option (List ℕ) → Option (List Change) → ℕ → Option (List (List ℕ)) → Status → List Answered → Type 0
Serves now count opening input journal faults reads status answers =
    HasServed now count opening input journal faults reads status answers ⊎ IsTurnedAway opening journal status answers

-- the status is that of bad words only where no command has the words; and of no command it is that, or want of memory, and nothing was changed
abbrev pub TellsWords : {A : Type 0} → List (String A) → Option (List Change) → Option (List Change) → Status → Type 0
TellsWords words before after status =
    (status ≡ Words → (asked : Command) → ¬ IsCommand words asked)
    × (((asked : Command) → ¬ IsCommand words asked) → ((status ≡ Words) ⊎ (status ≡ NoMemory)) × (after ≡ before))

-- of `init` and a schema a table of it was made, or not, with its cause; or memory ran out before anything was changed
abbrev pub CarriesOutInit : {A : Type 0} → List (String A) → Option (List Change) → Option (List Change) → Status → Type 0
CarriesOutInit words before after status =
    (schema : List Column) → IsCommand words (Init schema) → MakesTable schema before after status ⊎ ((status ≡ NoMemory) × (after ≡ before))

-- the input had fewer than 2^40 bytes, each of its lines has an answer, and nothing of it is left
abbrev pub AnswersEachLine : Option (List ℕ) → Option (List ℕ) → List Answered → Type 0
AnswersEachLine input left answers =
    IfSome input (λ (bytes : List ℕ). (length bytes < 2 ^ 40) × (length answers ≡ length (lines_of bytes))) × IfSome left (λ (bytes : List ℕ). bytes ≡ [])

-- exactly 2^40 bytes were read, and the lines without an answer are those of a piece that was read and of what is left
abbrev pub ReadsTooMuch : Option (List ℕ) → Option (List ℕ) → List Answered → Type 0
ReadsTooMuch input left answers = CountsBytes 0 input (2 ^ 40) left × LinesAreCut input (length answers) left

-- the replies of the answers were written, or a front of them where the sink failed
abbrev pub WritesReplies : Option (List ℕ) → Option (List ℕ) → Status → List Answered → Type 0
WritesReplies before after status answers =
    (status ≢ SinkFault → after ≡ added before (printed_replies answers))
    × (status ≡ SinkFault → (n : ℕ) × (after ≡ added before (take n (printed_replies answers))))

-- ---- what is told of it

-- the exit status
abbrev pub exit_code : Status → ℕ
exit_code Done = 0
exit_code NoMemory = 1
exit_code Words = 2
exit_code SourceFault = 3
exit_code SinkFault = 4
exit_code StoreFault = 5
exit_code NotATable = 6
exit_code (Damaged path) = 6
exit_code (Version found) = 6
exit_code (NotEmpty path) = 6
exit_code TooLong = 8

-- what stands on standard error behind the program's name
abbrev pub message : Status → Option (List ℕ)
message Done = None
message NoMemory = Some (codes "no memory")
message Words = Some (codes "words")
message SourceFault = Some (codes "source fault")
message SinkFault = Some (codes "sink fault")
message StoreFault = Some (codes "store fault")
message NotATable = Some (codes "not a table")
message (Damaged path) = Some (codes "damaged " ++ path)
message (Version found) = Some (codes "version " ++ decimal found)
message (NotEmpty path) = Some (codes "not empty " ++ path)
message TooLong = Some (codes "too long")
