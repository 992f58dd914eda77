-- From what the table's calls do to what an ask is answered.
use Rattle.std.proofs.Common.{◌≡◌, ◌≢◌, ◌⊎◌, inl, inr, ℕ, ◌+◌, ◌<◌, ◌^◌, List, [], ◌∷◌, ◌++◌, length, Option, Some, None, refl, sym, ◌∙◌, ap, subst, arith, append_assoc, append-nil}
use Rattle.std.specs.Prelude.{IfOk, IfSome, Result, Ok, Err}
use Rattle.mx_ask.specs.declared.ask.Ask.{Ask}
use Rattle.mx_ask.specs.declared.ask.FileRows.{FileRows}
use Rattle.mx_ask.specs.declared.ask.Question.{Question}
use Rattle.mx_ask.specs.declared.reply.Refusal.{Refusal}
use Rattle.mx_ask.specs.declared.reply.Reply.{Reply}
use Rattle.mx_store.specs.Calls.{Counts}
use Rattle.mx_store.specs.Objects.{Objects, objects_of}
use Rattle.mx_store.specs.declared.change.Change.{Change}
use Rattle.mx_store.specs.declared.store.StoreError.{StoreError}
use Rattle.mx_store.specs.declared.store.StoreError.TheVariants as store
use Rattle.mx_store.proofs.Longer.{EachSince-now}
use Rattle.mx_folder.specs.Folder.{IsValidTable}
use Rattle.mx_files.specs.Files.{FilesMap}
use Rattle.mx_folder.specs.Completed.{completed_upto}
use Rattle.mx_lookup.specs.Looking.{IsAnswer, IsLookedUp, ReadsAll, ReadsOn, slice_paths}
use Rattle.mx_lookup.proofs.KeptLemmas.{read_on, reads_same, reads_then}
use Rattle.mx_model.specs.Answer.{answer}
use Rattle.mx_world.specs.declared.error.ChangeError.TheVariants as changes
use Rattle.mx_world.specs.declared.mirror.Mirror.{Mirror}
use Rattle.mx_world.specs.State.{Holds, ReadsDoubt, Settles, Stands, Standing, path_of}
use Rattle.mx_writer.specs.declared.committing.CommitError.{CommitError}
use Rattle.mx_writer.specs.declared.committing.CommitError.TheVariants.{TooMany, DuplicateGroup, BadRow, DuplicateRow, TooLarge, InstantsUsedUp, Stopped}
use Rattle.mx_writer.specs.Commit.{Commits, CountsCommit}
use Rattle.mx_hub.specs.declared.answered.Answered.{Answered}
use Rattle.mx_hub.specs.Answers.{AnswersCommits, AnswersQuestion, AnswersSettled, CommitsFiles, CountsRefusal, CountsReply, IsAnswered, IsRefusedFor, IsCounted, HasReadSlice, IsReplyTo, ReadsLast, ReadsSlice, paths_at, IsShown, WasTable, commit_refusal, commit_reply, look_reply, store_refusal}

-- ---- the store's faults

pub counts_store : (T : Type 0) (before now : ℕ) (error : StoreError) → Counts {T = T} before now (Err error) → CountsReply before now (Reply.Refused (store_refusal error))
counts_store T before now store.Failed is = is
counts_store T before now store.NoMemory is = is

pub counts_commit : (before now : ℕ) (why : CommitError) → CountsCommit before now (Err why) → CountsRefusal before now (commit_refusal why)
counts_commit before now (TooMany what count) is = is
counts_commit before now (DuplicateGroup partition file) is = is
counts_commit before now (BadRow place) is = is
counts_commit before now (DuplicateRow key) is = is
counts_commit before now (TooLarge bytes) is = is
counts_commit before now InstantsUsedUp is = is
counts_commit before now (Stopped changes.StoreFault) is = is
counts_commit before now (Stopped changes.NoMemory) is = is
counts_commit before now (Stopped (changes.Changed path)) is = is
counts_commit before now (Stopped (changes.InDoubt path)) is = is

pub counts_answer : (before now : ℕ) (reply : Reply) → IsAnswer reply → now ≡ before → CountsReply before now reply
counts_answer before now (Reply.Files at files) kind is = is
counts_answer before now (Reply.Partitions at partitions) kind is = is
counts_answer before now (Reply.Committed at files) kind is = absurd kind
counts_answer before now (Reply.Refused refusal) kind is = absurd kind

-- ---- what is known where no change is in doubt

module _ (opening journal : Option (List Change)) (m : Mirror) (last applied : ℕ) (doubt : Option Change) (sure : doubt ≡ None) (stands : Stands opening journal m last applied doubt) where
  held : (first j : List Change) → opening ≡ Some first → journal ≡ Some j → Holds first j m last applied
  held first j opens told =
      subst (λ (d : Option Change). Stands (Some first) (Some j) m last applied d) sure
      (subst (λ (x : Option (List Change)). Stands (Some first) x m last applied doubt) told
      (subst (λ (x : Option (List Change)). Stands x journal m last applied doubt) opens stands))

  -- a told journal began with a told opening
  from_opening : (P : List Change → Type 0) → ((first j : List Change) → opening ≡ Some first → journal ≡ Some j → P j) → IfSome journal P
  from_opening P known = by_cases opening journal refl refl stands
    where
      by_cases : (o s : Option (List Change)) → opening ≡ o → journal ≡ s → Stands o s m last applied doubt → IfSome s P
      by_cases o None opens told is = tt
      by_cases (Some first) (Some j) opens told is = known first j opens told
      by_cases None (Some j) opens told is = absurd (cc is)

  pub counted_is : (now : Standing) → now.journal ≡ journal → now.applied ≡ applied → IsCounted opening now
  counted_is now told count = by_cases opening refl
    where
      by_cases : (o : Option (List Change)) → opening ≡ o → IfSome o (λ (first : List Change). IfSome now.journal (λ (j : List Change). length j ≡ length first + now.applied))
      by_cases None opens = tt
      by_cases (Some first) opens = by_journal now.journal refl
        where
          by_journal : (s : Option (List Change)) → now.journal ≡ s → IfSome s (λ (j : List Change). length j ≡ length first + now.applied)
          by_journal None none = tt
          by_journal (Some j) some = (held first j opens (sym told ∙ some)).count ∙ ap (λ (n : ℕ). length first + n) (sym count)

  pub is_table : IfSome journal (λ (j : List Change). WasTable opening → IsValidTable (objects_of j))
  is_table = from_opening (λ j. WasTable opening → IsValidTable (objects_of j)) (λ first j opens told was.
      let h = held first j opens told in
      let valid : IsValidTable (objects_of first) = subst (λ (o : Option (List Change)). WasTable o) opens was in
      EachSince-now IsValidTable (length first) j (let c = h.count in omega (arith, c)) (h.valid valid))

-- ---- a commit

module _ (files : List FileRows) (before after : Standing) where
  pub ran_short : after ≡ before → CommitsFiles files before after (Err (Stopped changes.NoMemory))
  ran_short same = inr (record { refused = refl; same = same })

  pub stopped : (why : CommitError) → Commits files before after (Err why) → CommitsFiles files before after (Err why)
  stopped why commits = inl (record { ended = Err why; commits = commits; reply_is = refl })

  pub committed : (at : ℕ) (paths : List (List ℕ)) → Commits files before after (Ok at) → (before.last + 1 < 10 ^ 17 → paths ≡ paths_at files (before.last + 1)) → CommitsFiles files before after (Ok (Reply.Committed at paths))
  committed at paths commits made = record {
    ended = Ok at;
    commits = commits;
    reply_is = ap (λ (fs : List (List ℕ)). Reply.Committed at fs)
        (made (let next = commits.ends.1 in let small = commits.ends.2 in omega (arith, next, small)) ∙ ap (paths_at files) (sym commits.ends.1));
  }

-- ---- a look-up

shown : (opening : Option (List Change)) (o : Objects) (question : Question) (asked : Option ℕ) (reply : Reply) (reads_before reads_after : Option (List (List ℕ))) → IsLookedUp o question asked reply reads_before reads_after → (WasTable opening → IsValidTable o) → WasTable opening → IsShown o question asked reply
shown opening o question asked reply reads_before reads_after is valid was = record { at = is.at; pinned = is.pinned; retained = is.retained (valid was); answer = is.answer (valid was) }

pub shows : (opening journal : Option (List Change)) (question : Question) (asked : Option ℕ) (reply : Reply) (reads_before reads_after : Option (List (List ℕ))) → IfSome journal (λ (j : List Change). WasTable opening → IsValidTable (objects_of j))
    → IfSome journal (λ (j : List Change). IsLookedUp (objects_of j) question asked reply reads_before reads_after) → IfSome journal (λ (j : List Change). WasTable opening → IsShown (objects_of j) question asked reply)
shows opening None question asked reply reads_before reads_after valid is = tt
shows opening (Some j) question asked reply reads_before reads_after valid is = shown opening (objects_of j) question asked reply reads_before reads_after is valid

-- ---- an ask

pub settled_answer : (opening : Option (List Change)) (ask : Ask) (before during after : Standing) (a : Answered) → Settles before during (Ok tt) → IsCounted opening during → a.begun ≡ during.applied → a.seq ≡ after.applied
    → IsReplyTo opening ask during after a.reply → IsAnswered opening ask before after a
settled_answer opening ask before during after a settles counted begun seq reply = inl (record { during = during; settles = settles; counted = counted; begun = begun; seq = seq; reply = reply })

pub held_up : (opening : Option (List Change)) (ask : Ask) (before after : Standing) (a : Answered) (error : StoreError) (refusal : Refusal) → after ≡ before → refusal ≡ store_refusal error → IsRefusedFor refusal after after a → IsAnswered opening ask before after a
held_up opening ask before after a error refusal same is refused = inr (
  error,
  record {
    same = same;
    begun = refused.begun ∙ ap (λ (s : Standing). s.applied) same;
    seq = refused.seq ∙ ap (λ (s : Standing). s.applied) same;
    reply = refused.reply ∙ ap (λ (r : Refusal). Reply.Refused r) is;
  },
)

-- ---- a look-up that was made

pub looked : (opening : Option (List Change)) (question : Question) (asked : Option ℕ) (before after : Standing) (reply : Reply) (reads_before reads_after : Option (List (List ℕ))) → after ≡ before
    → IfSome before.journal (λ (j : List Change). WasTable opening → IsValidTable (objects_of j)) → IfSome before.journal (λ (j : List Change). IsLookedUp (objects_of j) question asked reply reads_before reads_after)
    → AnswersQuestion opening question asked before after reply
looked opening question asked before after reply reads_before reads_after same valid is = record {
  same = same;
  found = Ok reply;
  shows = shows opening before.journal question asked reply reads_before reads_after valid is;
  reply_is = refl;
}

-- ---- what a look-up read

all_last : (paths : List (List ℕ)) (before after : Option (List (List ℕ))) → ReadsAll paths before after → ReadsLast paths before after
all_last paths None after all = all
all_last paths (Some before) after all = ([], all ∙ ap (λ (l : List (List ℕ)). Some (l ++ paths)) (sym (append-nil before)))

read_answer : (o : Objects) (question : Question) (files : FilesMap) (at : ℕ) (before after : Option (List (List ℕ))) → ReadsAll (slice_paths (completed_upto o at)) before after → HasReadSlice o (answer question files at) before after
read_answer o (Question.Files partition) files at before after all = all_last (slice_paths (completed_upto o at)) before after all
read_answer o Question.Partitions files at before after all = all_last (slice_paths (completed_upto o at)) before after all

pub reads_looked : (opening journal now : Option (List Change)) (question : Question) (asked : Option ℕ) (reply : Reply) (before after : Option (List (List ℕ))) → now ≡ journal → IfSome journal (λ (j : List Change). WasTable opening → IsValidTable (objects_of j))
    → IfSome journal (λ (j : List Change). IsLookedUp (objects_of j) question asked reply before after) → ReadsSlice opening now reply before after
reads_looked opening journal now question asked reply before after same valid is = subst (λ (o : Option (List Change)). ReadsSlice opening o reply before after) (sym same) (by_journal journal valid is)
  where
    by_journal : (o : Option (List Change)) → IfSome o (λ (j : List Change). WasTable opening → IsValidTable (objects_of j)) → IfSome o (λ (j : List Change). IsLookedUp (objects_of j) question asked reply before after) → ReadsSlice opening o reply before after
    by_journal None valid is = tt
    by_journal (Some j) valid is = λ was. subst (λ (r : Reply). HasReadSlice (objects_of j) r before after) (sym (is.answer (valid was))) (read_answer (objects_of j) question _ is.at before after is.reads)

pub reads_refused : (opening journal : Option (List Change)) (refusal : Refusal) (before after : Option (List (List ℕ))) → ReadsSlice opening journal (Reply.Refused refusal) before after
reads_refused opening None refusal before after = tt
reads_refused opening (Some j) refusal before after = λ _. tt

-- no commit is answered as a look-up
pub reads_commit : (opening journal : Option (List Change)) (files : List FileRows) (before after : Standing) (reply : Reply) (old new : Option (List (List ℕ))) → AnswersCommits files before after reply → ReadsSlice opening journal reply old new
reads_commit opening journal files before after reply old new (inl is) = subst (λ (r : Reply). ReadsSlice opening journal r old new) (sym is.reply_is) (by_end journal is.ended)
  where
    by_end : (o : Option (List Change)) (ended : Result ℕ CommitError) → ReadsSlice opening o (commit_reply files ended) old new
    by_end None ended = tt
    by_end (Some j) (Ok at) = λ _. tt
    by_end (Some j) (Err why) = λ _. tt
reads_commit opening journal files before after reply old new (inr short) = subst (λ (r : Reply). ReadsSlice opening journal r old new) (sym short.refused) (reads_refused opening journal Refusal.NoMemory old new)

moved_back : (reads : List (List ℕ)) (path : List ℕ) (front paths : List (List ℕ)) → Some (((reads ++ path ∷ []) ++ front) ++ paths) ≡ Some ((reads ++ path ∷ front) ++ paths)
moved_back reads path front paths = ap (λ (l : List (List ℕ)). Some (l ++ paths)) (append_assoc reads (path ∷ []) front)

last_behind : (paths : List (List ℕ)) (doubt : Option Change) (before during after : Option (List (List ℕ))) → ReadsDoubt doubt before during (Ok tt) → ReadsLast paths during after → ReadsLast paths before after
last_behind paths None before during after settled last = subst (λ (r : Option (List (List ℕ))). ReadsLast paths r after) settled last
last_behind paths (Some change) None during after settled last = subst (λ (r : Option (List (List ℕ))). ReadsLast paths r after) settled last
last_behind paths (Some change) (Some reads) during after settled last =
    let moved = subst (λ (r : Option (List (List ℕ))). ReadsLast paths r after) settled last in
    (path_of change ∷ moved.0, moved.1 ∙ moved_back reads (path_of change) moved.0 paths)

-- what settled the doubt was read before
pub reads_behind : (opening journal : Option (List Change)) (doubt : Option Change) (reply : Reply) (before during after : Option (List (List ℕ))) → ReadsDoubt doubt before during (Ok tt) → ReadsSlice opening journal reply during after → ReadsSlice opening journal reply before after
reads_behind opening None doubt reply before during after settled is = tt
reads_behind opening (Some j) doubt (Reply.Files at files) before during after settled is = λ was. last_behind (slice_paths (completed_upto (objects_of j) at)) doubt before during after settled (is was)
reads_behind opening (Some j) doubt (Reply.Partitions at partitions) before during after settled is = λ was. last_behind (slice_paths (completed_upto (objects_of j) at)) doubt before during after settled (is was)
reads_behind opening (Some j) doubt (Reply.Committed at files) before during after settled is = λ _. tt
reads_behind opening (Some j) doubt (Reply.Refused refusal) before during after settled is = λ _. tt

-- what was read to settle the doubt stays read
doubt_on : (doubt : Option Change) (before after : Option (List (List ℕ))) (result : Result Unit StoreError) → ReadsDoubt doubt before after result → ReadsOn before after
doubt_on None before after result settled = reads_same before after settled
doubt_on (Some change) before after result settled = read_on Unit (path_of change) before after result settled

pub on_held : (doubt : Option Change) (before after : Option (List (List ℕ))) (error : StoreError) → ReadsDoubt doubt before after (Err error) → ReadsOn before after
on_held doubt before after error settled = doubt_on doubt before after (Err error) settled

pub on_settled : (doubt : Option Change) (before during after : Option (List (List ℕ))) → ReadsDoubt doubt before during (Ok tt) → ReadsOn during after → ReadsOn before after
on_settled doubt before during after settled on = reads_then before during after (doubt_on doubt before during (Ok tt) settled) on
