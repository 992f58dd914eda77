-- One line more.
use Rattle.std.proofs.Common.{◌≡◌, ◌⊎◌, inl, inr, ℕ, ◌+◌, List, [], ◌∷◌, ◌++◌, length, take, Option, Some, None, refl, sym, ◌∙◌, ap, subst, arith}
use Rattle.std.specs.Prelude.{IfSome}
use Rattle.std.proofs.lemmas.List.{take_all, take-append-le, append-nil}
use Rattle.std.proofs.lemmas.Grind.{flat_map-append}
use Rattle.std.proofs.Math.Seq.{take-append-add}
use Rattle.mx_store.specs.declared.change.Change.{Change}
use Rattle.mx_store.specs.Streams.{added}
use Rattle.mx_ask.specs.declared.ask.Ask.{Ask}
use Rattle.mx_ask.specs.declared.reply.Refusal.{Refusal}
use Rattle.mx_ask.specs.declared.reply.Reply.{Reply}
use Rattle.mx_ask.specs.Asks.{IsAsk}
use Rattle.mx_lines.specs.declared.line.Line.TheVariants.{Long}
use Rattle.mx_lines.specs.Lines.{IsLine, LinesGo, lines_of, longest_line}
use Rattle.mx_lines.proofs.Pieces.{added-added}
use Rattle.mx_hub.specs.declared.answered.Answered.{Answered}
use Rattle.mx_hub.specs.declared.serving.Ending.{Ending}
use Rattle.mx_lookup.specs.Looking.{ReadsOn}
use Rattle.mx_lookup.proofs.KeptLemmas.{reads_stay}
use Rattle.mx_hub.specs.Answers.{CountsReply, IsAnswered, IsRefusedFor, ReadsSlice}
use Rattle.mx_hub.specs.History.{Moment, IsNoAsk, IsAnswerOf, AnswersFit, IsLeftBy, IsHistory, printed, printed_replies}
use Rattle.mx_hub.proofs.AskLemmas.{reads_refused}

-- a line that is too long is no ask
pub long_is_none : (bytes : List ℕ) → IsLine Long bytes → IsNoAsk bytes
unfolding longest_line
long_is_none bytes long = λ ask is. omega (arith, long, is.short)

-- ---- the answer to one line

reads_none : (opening : Option (List Change)) (m : Moment) (a : Answered) (refusal : Refusal) → a.reply ≡ Reply.Refused refusal → ReadsSlice opening m.standing.journal a.reply m.reads m.reads
reads_none opening m a refusal is = subst (λ (r : Reply). ReadsSlice opening m.standing.journal r m.reads m.reads) (sym is) (reads_refused opening m.standing.journal refusal m.reads m.reads)

-- a line that is no ask is refused
pub answers_none : (opening : Option (List Change)) (number : ℕ) (line : List ℕ) (m : Moment) (a : Answered) → IsNoAsk line → a.ask ≡ number → IsRefusedFor Refusal.Line m.standing m.standing a → IsAnswerOf opening number line m m a
answers_none opening number line m a none at refused = record {
  ask = at;
  faults = subst (CountsReply m.faults m.faults) (sym refused.reply) refl;
  reads = reads_none opening m a Refusal.Line refused.reply;
  reads_on = reads_stay m.reads;
  answers = inr (inl (none, refused));
}

-- memory was wanted before it was known what the line is
pub answers_short : (opening : Option (List Change)) (number : ℕ) (line : List ℕ) (m : Moment) (a : Answered) → a.ask ≡ number → IsRefusedFor Refusal.NoMemory m.standing m.standing a → IsAnswerOf opening number line m m a
answers_short opening number line m a at refused = record {
  ask = at;
  faults = subst (CountsReply m.faults m.faults) (sym refused.reply) refl;
  reads = reads_none opening m a Refusal.NoMemory refused.reply;
  reads_on = reads_stay m.reads;
  answers = inr (inr refused);
}

-- a line that is an ask is answered
pub answers_ask : (opening : Option (List Change)) (number : ℕ) (line : List ℕ) (ask : Ask) (before after : Moment) (a : Answered) → IsAsk line ask → a.ask ≡ number → IsAnswered opening ask before.standing after.standing a
    → CountsReply before.faults after.faults a.reply → ReadsSlice opening after.standing.journal a.reply before.reads after.reads → ReadsOn before.reads after.reads → IsAnswerOf opening number line before after a
answers_ask opening number line ask before after a is at answered counts reads on = record { ask = at; faults = counts; reads = reads; reads_on = on; answers = inl (ask, is, answered) }

-- ---- one answer more

pub fit_push : (opening : Option (List Change)) (number : ℕ) (lines : List (List ℕ)) (answers : List Answered) (before during after : Moment) (line : List ℕ) (a : Answered) → AnswersFit opening number lines answers before during
    → (k : ℕ) → k ≡ number + length answers → IsAnswerOf opening k line during after a → AnswersFit opening number (lines ++ line ∷ []) (answers ++ a ∷ []) before after
fit_push opening number [] [] before during after line a fit k at is =
    (after, subst (λ (m : ℕ). IsAnswerOf opening m line before after a) (omega (arith, at)) (subst (λ (b : Moment). IsAnswerOf opening k line b after a) fit is), refl)
fit_push opening number [] (b ∷ answers) before during after line a fit k at is = absurd fit
fit_push opening number (l ∷ lines) [] before during after line a fit k at is = absurd fit
fit_push opening number (l ∷ lines) (b ∷ answers) before during after line a fit k at is =
    (fit.0, fit.1, fit_push opening (number + 1) lines answers fit.0 during after line a fit.2 k (omega (arith, at)) is)

pub same_length : (opening : Option (List Change)) (number : ℕ) (lines : List (List ℕ)) (answers : List Answered) (before after : Moment) → AnswersFit opening number lines answers before after → length answers ≡ length lines
same_length opening number [] [] before after fit = refl
same_length opening number [] (a ∷ answers) before after fit = absurd fit
same_length opening number (line ∷ lines) [] before after fit = absurd fit
same_length opening number (line ∷ lines) (a ∷ answers) before after fit = let e = same_length opening (number + 1) lines answers fit.0 after fit.2 in omega (arith, e)

-- ---- the end of the call

first_lines : (input left : Option (List ℕ)) (lines : List (List ℕ)) (count : ℕ) → LinesGo input lines left → count ≡ length lines → IfSome input (λ (bytes : List ℕ). lines ≡ take count (lines_of bytes))
first_lines None left lines count go is = tt
first_lines (Some bytes) None lines count go is = absurd go
first_lines (Some bytes) (Some rest) lines count go is =
    sym (ap (take count) go ∙ take-append-le count lines (lines_of rest) (omega (arith, is)) ∙ take_all count lines (omega (arith, is)))

pub history_ended : (opening : Option (List Change)) (before during after : Moment) (input left : Option (List ℕ)) (lines : List (List ℕ)) (ending said : Ending) (answers kept : List Answered) → said ≡ ending → kept ≡ answers
    → AnswersFit opening 0 lines answers before during → LinesGo input lines left → IsLeftBy ending opening (length answers) during after → IsHistory opening before after input said kept
history_ended opening before during after input left lines ending said answers kept same is fit go rest = subst (λ (e : Ending). IsHistory opening before after input e kept) (sym same) (subst (λ (l : List Answered). IsHistory opening before after input ending l) (sym is) (record {
  lines = lines;
  first_lines = first_lines input left lines (length answers) go (same_length opening 0 lines answers before during fit);
  during = during;
  fit = fit;
  left = rest;
}))

-- ---- what was written

replies-push : (answers : List Answered) (a : Answered) → printed_replies (answers ++ a ∷ []) ≡ printed_replies answers ++ printed a
replies-push answers a = flat_map-append printed answers (a ∷ []) ∙ ap (λ (l : List ℕ). printed_replies answers ++ l) (append-nil (printed a))

pub written-push : (w0 w1 w2 : Option (List ℕ)) (answers : List Answered) (a : Answered) → w1 ≡ added w0 (printed_replies answers) → w2 ≡ added w1 (printed a) → w2 ≡ added w0 (printed_replies (answers ++ a ∷ []))
written-push w0 w1 w2 answers a one two =
    two ∙ ap (λ (w : Option (List ℕ)). added w (printed a)) one ∙ added-added w0 (printed_replies answers) (printed a) ∙ ap (λ (l : List ℕ). added w0 l) (sym (replies-push answers a))

pub written-part : (w0 w1 w2 : Option (List ℕ)) (answers : List Answered) (a : Answered) (n : ℕ) → w1 ≡ added w0 (printed_replies answers) → w2 ≡ added w1 (take n (printed a))
    → w2 ≡ added w0 (take (length (printed_replies answers) + n) (printed_replies (answers ++ a ∷ [])))
written-part w0 w1 w2 answers a n one two =
    two ∙ ap (λ (w : Option (List ℕ)). added w (take n (printed a))) one ∙ added-added w0 (printed_replies answers) (take n (printed a))
    ∙ ap (λ (l : List ℕ). added w0 l) (sym (take-append-add (printed_replies answers) (printed a) n) ∙ ap (λ (l : List ℕ). take (length (printed_replies answers) + n) l) (sym (replies-push answers a)))
