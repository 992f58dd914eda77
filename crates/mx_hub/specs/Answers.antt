-- What an ask is answered, by what stands before it and after it.
use Rattle.std.specs.Prelude.{◌≡◌, ◌⊎◌, ℕ, ◌+◌, ◌≤◌, List, ◌++◌, length, map, Option, Some, None, IfOk, IfSome, Result, Ok, Err}
use Rattle.mx_ask.specs.declared.ask.Ask.{Ask}
use Rattle.mx_ask.specs.declared.ask.AskKind.{AskKind}
use Rattle.mx_ask.specs.declared.ask.FileRows.{FileRows}
use Rattle.mx_ask.specs.declared.ask.Question.{Question}
use Rattle.mx_ask.specs.declared.reply.Refusal.{Refusal}
use Rattle.mx_ask.specs.declared.reply.Reply.{Reply}
use Rattle.mx_model.specs.Answer.{answer as model_answer}
use Rattle.mx_model.specs.Listing.{listed_files}
use Rattle.mx_files.specs.Files.{files_map}
use Rattle.mx_store.specs.declared.change.Change.{Change}
use Rattle.mx_store.specs.declared.store.StoreError.{StoreError}
use Rattle.mx_store.specs.declared.store.StoreError.TheVariants as store
use Rattle.mx_store.specs.Calls.{Rose}
use Rattle.mx_store.specs.Objects.{Objects, objects_of}
use Rattle.mx_folder.specs.Actions.{actions_upto}
use Rattle.mx_folder.specs.Completed.{completed_upto}
use Rattle.mx_folder.specs.Folder.{IsValidTable}
use Rattle.mx_lookup.specs.Looking.{IsPinned, floor, slice_paths}
use Rattle.mx_world.specs.declared.error.ChangeError.{ChangeError}
use Rattle.mx_world.specs.declared.error.ChangeError.TheVariants as changes
use Rattle.mx_world.specs.State.{Standing, Settles}
use Rattle.mx_writer.specs.declared.committing.CommitError.{CommitError}
use Rattle.mx_writer.specs.declared.committing.CommitError.TheVariants.{TooMany, DuplicateGroup, BadRow, DuplicateRow, TooLarge, InstantsUsedUp, Stopped}
use Rattle.mx_base.specs.Paths.{data_path}
use Rattle.mx_writer.specs.Commit.{Commits}
use Rattle.mx_hub.specs.declared.answered.Answered.{Answered}

-- memory was wanted, and nothing was changed
pub record RunsShort (before after : Standing) (reply : Reply) : Type 0 where
  pub refused : reply ≡ Reply.Refused Refusal.NoMemory
  pub same : after ≡ before

-- ---- a commit

-- why a change was not made; none is asked for while another is in doubt
abbrev pub change_refusal : ChangeError → Refusal
change_refusal changes.StoreFault = Refusal.StoreFault
change_refusal (changes.Changed path) = Refusal.Changed path
change_refusal changes.NoMemory = Refusal.NoMemory
change_refusal (changes.InDoubt path) = Refusal.NoMemory

-- why a commit was refused
abbrev pub commit_refusal : CommitError → Refusal
commit_refusal (TooMany what count) = Refusal.TooMany what count
commit_refusal (DuplicateGroup partition file) = Refusal.DuplicateGroup partition file
commit_refusal (BadRow place) = Refusal.BadRow place.file place.row place.column
commit_refusal (DuplicateRow key) = Refusal.DuplicateRow key
commit_refusal (TooLarge bytes) = Refusal.TooLarge bytes
commit_refusal InstantsUsedUp = Refusal.InstantsUsedUp
commit_refusal (Stopped why) = change_refusal why

-- where the data files of the instant stand, in the order of the ask
abbrev pub paths_at : List FileRows → ℕ → List (List ℕ)
paths_at files at = map (λ (file : FileRows). data_path file.partition file.file at) files

-- the reply to a commit of files that ended so
abbrev pub commit_reply : List FileRows → Result ℕ CommitError → Reply
commit_reply files (Ok at) = Reply.Committed at (paths_at files at)
commit_reply files (Err why) = Reply.Refused (commit_refusal why)

-- a commit of the files was made, or refused, or ended early, and the reply tells how it ended
pub record AnswersCommit (files : List FileRows) (before after : Standing) (reply : Reply) : Type 0 where
  pub ended : Result ℕ CommitError
  pub commits : Commits files before after ended
  pub reply_is : reply ≡ commit_reply files ended

-- or memory was wanted before
abbrev pub AnswersCommits : List FileRows → Standing → Standing → Reply → Type 0
AnswersCommits files before after reply = AnswersCommit files before after reply ⊎ RunsShort before after reply

-- ---- a look-up

-- what the files answer that the completed commits up to an instant list: the one that is asked for, else the newest
pub record IsShown (objects : Objects) (question : Question) (asked : Option ℕ) (reply : Reply) : Type 0 where
  pub at : ℕ
  pub pinned : IsPinned objects asked at
  pub retained : floor objects ≤ at
  pub answer : reply ≡ model_answer question (files_map (listed_files (actions_upto objects at))) at

-- the opening was a valid table, where it is told
abbrev pub WasTable : Option (List Change) → Type 0
WasTable opening = IfSome opening (λ (j : List Change). IsValidTable (objects_of j))

-- what a failed call of the store is to an ask
abbrev pub store_refusal : StoreError → Refusal
store_refusal store.Failed = Refusal.StoreFault
store_refusal store.NoMemory = Refusal.NoMemory

abbrev pub look_reply : Result Reply StoreError → Reply
look_reply (Ok reply) = reply
look_reply (Err error) = Reply.Refused (store_refusal error)

-- nothing is changed, and the reply answers the question, or tells why it does not
pub record AnswersQuestion (opening : Option (List Change)) (question : Question) (asked : Option ℕ) (before after : Standing) (reply : Reply) : Type 0 where
  pub same : after ≡ before
  pub found : Result Reply StoreError
  pub shows : IfOk found (λ (shown : Reply). IfSome before.journal (λ (j : List Change). WasTable opening → IsShown (objects_of j) question asked shown))
  pub reply_is : reply ≡ look_reply found

-- where reads are told, these paths are the last that were read since
abbrev pub ReadsLast : List (List ℕ) → Option (List (List ℕ)) → Option (List (List ℕ)) → Type 0
ReadsLast paths None after = after ≡ None
ReadsLast paths (Some before) after = (front : List (List ℕ)) × (after ≡ Some (before ++ front ++ paths))

-- a look-up that is answered has read the first base, and the logs of the commits that are completed up to its instant
abbrev pub HasReadSlice : Objects → Reply → Option (List (List ℕ)) → Option (List (List ℕ)) → Type 0
HasReadSlice objects (Reply.Files at files) before after = ReadsLast (slice_paths (completed_upto objects at)) before after
HasReadSlice objects (Reply.Partitions at partitions) before after = ReadsLast (slice_paths (completed_upto objects at)) before after
HasReadSlice objects (Reply.Committed at files) before after = Unit {0}
HasReadSlice objects (Reply.Refused refusal) before after = Unit {0}

-- the same where the journal is told and the opening was a valid table
abbrev pub ReadsSlice : Option (List Change) → Option (List Change) → Reply → Option (List (List ℕ)) → Option (List (List ℕ)) → Type 0
ReadsSlice opening journal reply before after = IfSome journal (λ (j : List Change). WasTable opening → HasReadSlice (objects_of j) reply before after)

-- ---- an ask

-- the reply to an ask, where no change is in doubt
abbrev pub AnswersKind : Option (List Change) → AskKind → Standing → Standing → Reply → Type 0
AnswersKind opening (AskKind.Commit files) before after reply = AnswersCommits files before after reply
AnswersKind opening (AskKind.LookUp question at) before after reply = AnswersQuestion opening question at before after reply

-- of whatever session it is
abbrev pub IsReplyTo : Option (List Change) → Ask → Standing → Standing → Reply → Type 0
IsReplyTo opening ask before after reply = AnswersKind opening ask.kind before after reply

-- so many changes were made since the opening, where it is told
abbrev pub IsCounted : Option (List Change) → Standing → Type 0
IsCounted opening now = IfSome opening (λ (first : List Change). IfSome now.journal (λ (j : List Change). length j ≡ length first + now.applied))

-- the doubt is settled, and then the ask is answered
pub record AnswersSettled (opening : Option (List Change)) (ask : Ask) (before after : Standing) (answered : Answered) : Type 0 where
  pub during : Standing
  pub settles : Settles before during (Ok tt)
  pub counted : IsCounted opening during
  pub begun : answered.begun ≡ during.applied
  pub seq : answered.seq ≡ after.applied
  pub reply : IsReplyTo opening ask during after answered.reply

-- an answer that changes nothing
pub record IsRefusedFor (refusal : Refusal) (before after : Standing) (answered : Answered) : Type 0 where
  pub same : after ≡ before
  pub begun : answered.begun ≡ before.applied
  pub seq : answered.seq ≡ before.applied
  pub reply : answered.reply ≡ Reply.Refused refusal

-- the ask is answered; or the doubt could not be settled
abbrev pub IsAnswered : Option (List Change) → Ask → Standing → Standing → Answered → Type 0
IsAnswered opening ask before after answered =
    AnswersSettled opening ask before after answered ⊎ ((error : StoreError) × IsRefusedFor (store_refusal error) before after answered)

-- StoreFault only where the count rose, and any other reply leaves it
abbrev pub CountsRefusal : ℕ → ℕ → Refusal → Type 0
CountsRefusal before now Refusal.StoreFault = Rose before now
CountsRefusal before now Refusal.Line = now ≡ before
CountsRefusal before now Refusal.InstantsUsedUp = now ≡ before
CountsRefusal before now Refusal.NoMemory = now ≡ before
CountsRefusal before now (Refusal.Changed path) = now ≡ before
CountsRefusal before now (Refusal.TooMany what count) = now ≡ before
CountsRefusal before now (Refusal.DuplicateGroup partition file) = now ≡ before
CountsRefusal before now (Refusal.BadRow file row column) = now ≡ before
CountsRefusal before now (Refusal.DuplicateRow key) = now ≡ before
CountsRefusal before now (Refusal.TooLarge bytes) = now ≡ before
CountsRefusal before now (Refusal.Expired floor) = now ≡ before

abbrev pub CountsReply : ℕ → ℕ → Reply → Type 0
CountsReply before now (Reply.Committed at files) = now ≡ before
CountsReply before now (Reply.Files at files) = now ≡ before
CountsReply before now (Reply.Partitions at partitions) = now ≡ before
CountsReply before now (Reply.Refused refusal) = CountsRefusal before now refusal

-- ---- for private clauses

-- the same of a commit before its reply is made
abbrev pub CommitsFiles : List FileRows → Standing → Standing → Result Reply CommitError → Type 0
CommitsFiles files before after (Ok reply) = AnswersCommit files before after reply
CommitsFiles files before after (Err why) = AnswersCommits files before after (Reply.Refused (commit_refusal why))

-- the count of faults that goes with it
abbrev pub CountsEnded : ℕ → ℕ → Result Reply CommitError → Type 0
CountsEnded before now (Ok reply) = CountsReply before now reply
CountsEnded before now (Err why) = CountsRefusal before now (commit_refusal why)
