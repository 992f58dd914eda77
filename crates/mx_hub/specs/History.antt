-- The answers of a call as one history of the lines that it took.
use Rattle.std.specs.Prelude.{◌≡◌, ◌⊎◌, ℕ, ◌+◌, List, [], ◌∷◌, ◌++◌, length, take, Option, IfSome}
use Rattle.std.specs.List.{flat_map}
use Rattle.mx_store.specs.declared.change.Change.{Change}
use Rattle.mx_ask.specs.declared.ask.Ask.{Ask}
use Rattle.mx_ask.specs.declared.reply.Refusal.{Refusal}
use Rattle.mx_ask.specs.Asks.{IsAsk}
use Rattle.mx_ask.specs.Replies.{reply_text}
use Rattle.mx_lines.specs.declared.line.Line.{Line}
use Rattle.mx_lines.specs.Lines.{IsLine, lines_of}
use Rattle.mx_lookup.specs.Looking.{ReadsOn}
use Rattle.mx_world.specs.State.{Shown, Standing, standing}
use Rattle.mx_hub.specs.Answers.{IsAnswered, IsRefusedFor, CountsReply, ReadsSlice}
use Rattle.mx_hub.specs.declared.answered.Answered.{Answered}
use Rattle.mx_hub.specs.declared.serving.Ending.{Ending}
use Rattle.mx_hub.specs.declared.serving.Ending.TheVariants.{Done, NoMemory, SourceFault, SinkFault, TooLong}

-- how a table stands, with the count of its store's faults and what was read
pub record Moment : Type 0 where
  pub standing : Standing
  pub faults : ℕ
  pub reads : Option (List (List ℕ))

abbrev pub moment : {S : Type 0} → (S → Option (List Change)) → (S → ℕ) → (S → Option (List (List ℕ))) → Shown S → Moment
moment journal faults reads w = record { standing = standing journal w; faults = faults w.store; reads = reads w.store }

-- no ask has this line
abbrev pub IsNoAsk : List ℕ → Type 0
IsNoAsk line = (ask : Ask) → ¬ IsAsk line ask

-- an ask is answered, a line that is none is refused, and memory may have been wanted before it was known which it is
abbrev pub AnswersLine : Option (List Change) → List ℕ → Standing → Standing → Answered → Type 0
AnswersLine opening line before after answered =
    ((ask : Ask) × IsAsk line ask × IsAnswered opening ask before after answered)
    ⊎ ((IsNoAsk line × IsRefusedFor Refusal.Line before after answered) ⊎ IsRefusedFor Refusal.NoMemory before after answered)

-- the answer to the line of this number, and what was read for it
pub record IsAnswerOf (opening : Option (List Change)) (number : ℕ) (line : List ℕ) (before after : Moment) (answered : Answered) : Type 0 where
  pub ask : answered.ask ≡ number
  pub faults : CountsReply before.faults after.faults answered.reply
  pub reads : ReadsSlice opening after.standing.journal answered.reply before.reads after.reads
  pub reads_on : ReadsOn before.reads after.reads
  pub answers : AnswersLine opening line before.standing after.standing answered

-- the answers are those of the lines, each once and in their order; each begins where the one before it ended
abbrev pub AnswersFit : Option (List Change) → ℕ → List (List ℕ) → List Answered → Moment → Moment → Type 0
AnswersFit opening number [] [] before after = after ≡ before
AnswersFit opening number [] (a ∷ answers) before after = ⊥
AnswersFit opening number (line ∷ lines) [] before after = ⊥
AnswersFit opening number (line ∷ lines) (a ∷ answers) before after =
    (during : Moment) × IsAnswerOf opening number line before during a × AnswersFit opening (number + 1) lines answers during after

-- an answer was not kept, since memory was wanted to print it
abbrev pub IsLost : Option (List Change) → ℕ → Moment → Moment → Type 0
IsLost opening number before after = (line : List ℕ) × (a : Answered) × IsAnswerOf opening number line before after a

-- what stands after the last answer that was kept, by the end of the call
abbrev pub IsLeftBy : Ending → Option (List Change) → ℕ → Moment → Moment → Type 0
IsLeftBy NoMemory opening number before after = (after ≡ before) ⊎ IsLost opening number before after
IsLeftBy Done opening number before after = after ≡ before
IsLeftBy SourceFault opening number before after = after ≡ before
IsLeftBy SinkFault opening number before after = after ≡ before
IsLeftBy TooLong opening number before after = after ≡ before

-- the answers are those of the first lines of the input, where it is told
pub record IsHistory (opening : Option (List Change)) (before after : Moment) (input : Option (List ℕ)) (ending : Ending) (answers : List Answered) : Type 0 where
  pub lines : List (List ℕ)
  pub first_lines : IfSome input (λ (bytes : List ℕ). lines ≡ take (length answers) (lines_of bytes))
  pub during : Moment
  pub fit : AnswersFit opening 0 lines answers before during
  pub left : IsLeftBy ending opening (length answers) during after

-- the line that is written for an answer
abbrev pub printed : Answered → List ℕ
printed a = reply_text a.reply a.seq ++ 10 ∷ []

-- what is written for the answers
abbrev pub printed_replies : List Answered → List ℕ
printed_replies answers = flat_map printed answers

-- ---- for private clauses

-- the answer to each line that this one stands for
abbrev pub AnswersTaken : Option (List Change) → ℕ → Line → Moment → Moment → Answered → Type 0
AnswersTaken opening number line before after answered = (bytes : List ℕ) → IsLine line bytes → IsAnswerOf opening number bytes before after answered
