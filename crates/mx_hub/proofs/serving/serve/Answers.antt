use Rattle.std.proofs.Common.{◌≡◌, ◌<◌, ◌^◌, ◌+◌, ◌∷◌, [], ◌++◌, length, sym, ap, subst, ◌∙◌, List, ℕ, take, refl, inl, inr, rules, arith}
use Rattle.std.specs.Prelude.{IfSome, Option, Some, None}
use Rattle.mx_store.specs.Streams.{added, before}
use Rattle.mx_lines.specs.Ahead.{CountsBytes}
use Rattle.mx_lines.proofs.Counting.{counts-same, counts-trans}
use Rattle.mx_lines.specs.Lines.{lines_of, LinesAreCut, LinesGo}
use Rattle.mx_lines.proofs.Lines.{line_on, lines_cut, lines_start, lines_done}
use Rattle.mx_lines.proofs.Pieces.{added-nothing, before-nothing}
use Rattle.mx_hub.specs.declared.answered.Answered.{Answered}
use Rattle.mx_hub.specs.declared.serving.Ending.TheVariants as ending
use Rattle.mx_hub.specs.History.{AnswersFit, IsAnswerOf, moment, printed_replies}
use Rattle.mx_hub.proofs.Histories.{fit_push, history_ended, same_length, written-push, written-part}
use Rattle.mx_hub.proofs.serving.serve.Goals as goal

pub loop-line-init : goal.loop-line-init
loop-line-init g c = record {
  lines = [];
  taken = subst (λ (o : Option (List ℕ)). LinesGo (g.I.Source.left c.args.source.now) [] o)
      (sym (ap (λ (front : List ℕ). before front (g.I.Source.left c.args.source.now)) c.in-Ok.ensures.ahead ∙ before-nothing (g.I.Source.left c.args.source.now))) (lines_start (g.I.Source.left c.args.source.now));
  count = subst (λ (t : ℕ). CountsBytes 0 (g.I.Source.left c.args.source.now) t (g.I.Source.left c.args.source.now)) (sym c.in-Ok.ensures.taken) (counts-same 0 (g.I.Source.left c.args.source.now));
  fits = subst (λ (l : List Answered). AnswersFit g.N.Named.opening 0 [] l (moment g.S.Store.journal g.S.Store.faults g.S.Store.reads c.args.table.now) (moment g.S.Store.journal g.S.Store.faults g.S.Store.reads c.args.table.now)) (sym c.new-answers.ensures) refl;
  written = sym (ap (λ (l : List Answered). added (g.O.Sink.written c.args.sink.now) (printed_replies l)) c.new-answers.ensures ∙ added-nothing (g.O.Sink.written c.args.sink.now));
  source_faults = refl;
  sink_faults = refl;
}

pub returns-in-Ok-None-clause-history : goal.returns-in-Ok-None-clause-history
returns-in-Ok-None-clause-history g c =
    let i = c.loop-line.invariant in
    history_ended g.N.Named.opening (moment g.S.Store.journal g.S.Store.faults g.S.Store.reads c.args.table.now) (moment g.S.Store.journal g.S.Store.faults g.S.Store.reads c.loop-line.table) _ (g.I.Source.left c.args.source.now) _ i.lines ending.Done c.stop_with-in-Ok-None.result.ending c.loop-line.answers c.stop_with-in-Ok-None.result.answers c.stop_with-in-Ok-None.ensures.ending c.stop_with-in-Ok-None.ensures.answers
    i.fits i.taken refl

pub returns-in-Err-NoMemory-clause-history : goal.returns-in-Err-NoMemory-clause-history
returns-in-Err-NoMemory-clause-history g c =
    let i = c.loop-line.invariant in
    history_ended g.N.Named.opening (moment g.S.Store.journal g.S.Store.faults g.S.Store.reads c.args.table.now) (moment g.S.Store.journal g.S.Store.faults g.S.Store.reads c.loop-line.table) _ (g.I.Source.left c.args.source.now) _ i.lines ending.NoMemory c.stop_with-in-Err-NoMemory.result.ending c.loop-line.answers c.stop_with-in-Err-NoMemory.result.answers c.stop_with-in-Err-NoMemory.ensures.ending c.stop_with-in-Err-NoMemory.ensures.answers
    i.fits i.taken (inl refl)

pub returns-in-Err-Fault-clause-history : goal.returns-in-Err-Fault-clause-history
returns-in-Err-Fault-clause-history g c =
    let i = c.loop-line.invariant in
    history_ended g.N.Named.opening (moment g.S.Store.journal g.S.Store.faults g.S.Store.reads c.args.table.now) (moment g.S.Store.journal g.S.Store.faults g.S.Store.reads c.loop-line.table) _ (g.I.Source.left c.args.source.now) _ i.lines ending.SourceFault c.stop_with-in-Err-Fault.result.ending c.loop-line.answers c.stop_with-in-Err-Fault.result.answers c.stop_with-in-Err-Fault.ensures.ending c.stop_with-in-Err-Fault.ensures.answers
    i.fits i.taken refl

pub returns-in-Err-TooLong-clause-history : goal.returns-in-Err-TooLong-clause-history
returns-in-Err-TooLong-clause-history g c =
    let i = c.loop-line.invariant in
    history_ended g.N.Named.opening (moment g.S.Store.journal g.S.Store.faults g.S.Store.reads c.args.table.now) (moment g.S.Store.journal g.S.Store.faults g.S.Store.reads c.loop-line.table) _ (g.I.Source.left c.args.source.now) _ i.lines ending.TooLong c.stop_with-in-Err-TooLong.result.ending c.loop-line.answers c.stop_with-in-Err-TooLong.result.answers c.stop_with-in-Err-TooLong.ensures.ending c.stop_with-in-Err-TooLong.ensures.answers
    i.fits i.taken refl

nothing_left : (a : List ℕ) (left : Option (List ℕ)) → IfSome (before a left) (λ (l : List ℕ). l ≡ []) → IfSome left (λ (l : List ℕ). l ≡ [])
nothing_left a None none = tt
nothing_left [] (Some l) none = none
nothing_left (x ∷ a) (Some l) none = absurd (cc none)

counted : (input : Option (List ℕ)) (lines : List (List ℕ)) (answers kept : List Answered) → kept ≡ answers → length answers ≡ length lines → IfSome input (λ (bytes : List ℕ). lines_of bytes ≡ lines) → IfSome input (λ (bytes : List ℕ). length kept ≡ length (lines_of bytes))
counted None lines answers kept is count all = tt
counted (Some bytes) lines answers kept is count all = ap (λ (l : List Answered). length l) is ∙ count ∙ ap (λ (ls : List (List ℕ)). length ls) (sym all)

pub returns-in-Ok-None-clause-done : goal.returns-in-Ok-None-clause-done
returns-in-Ok-None-clause-done g c = λ _.
    let i = c.loop-line.invariant in
    counted (g.I.Source.left c.args.source.now) i.lines c.loop-line.answers c.stop_with-in-Ok-None.result.answers c.stop_with-in-Ok-None.ensures.answers
    (same_length g.N.Named.opening 0 i.lines c.loop-line.answers (moment g.S.Store.journal g.S.Store.faults g.S.Store.reads c.args.table.now) (moment g.S.Store.journal g.S.Store.faults g.S.Store.reads c.loop-line.table) i.fits)
    (lines_done (g.I.Source.left c.args.source.now) i.lines _ i.taken (rw c.in-Ok-None.field-0-is at c.in-Ok-None.ensures.line))

pub returns-in-Ok-None-clause-read : goal.returns-in-Ok-None-clause-read
returns-in-Ok-None-clause-read g c = λ _.
    nothing_left c.next_line.new.ahead.ahead (g.I.Source.left c.next_line.new.source)
    (subst (λ (o : Option (List ℕ)). IfSome o (λ (l : List ℕ). l ≡ [])) (sym (rw c.in-Ok-None.field-0-is at c.in-Ok-None.ensures.end)) (rw c.in-Ok-None.field-0-is at c.in-Ok-None.ensures.line))

pub returns-in-Err-clause-history : goal.returns-in-Err-clause-history
returns-in-Err-clause-history g c =
    let i = c.loop-line.invariant in
    let one = line_on (g.I.Source.left c.args.source.now) i.lines _ c.in-Ok-Some.line _ i.taken (rw c.in-Ok-Some.field-0-is at c.in-Ok-Some.ensures.line) in
    history_ended g.N.Named.opening (moment g.S.Store.journal g.S.Store.faults g.S.Store.reads c.args.table.now) (moment g.S.Store.journal g.S.Store.faults g.S.Store.reads c.loop-line.table) (moment g.S.Store.journal g.S.Store.faults g.S.Store.reads c.answer-answered.new.table) (g.I.Source.left c.args.source.now) _ i.lines ending.NoMemory c.stop_with-in-Err.result.ending c.loop-line.answers c.stop_with-in-Err.result.answers
    c.stop_with-in-Err.ensures.ending (c.stop_with-in-Err.ensures.answers ∙ c.in-Err.ensures.err) i.fits i.taken
    (inr (one.0, c.answer-answered.result, subst (λ (n : ℕ). IsAnswerOf g.N.Named.opening n one.0 (moment g.S.Store.journal g.S.Store.faults g.S.Store.reads c.loop-line.table) (moment g.S.Store.journal g.S.Store.faults g.S.Store.reads c.answer-answered.new.table) c.answer-answered.result) c.len-number.ensures (c.answer-answered.ensures one.0 one.1)))

pub returns-in-Err-write_all-clause-history : goal.returns-in-Err-write_all-clause-history
returns-in-Err-write_all-clause-history g c =
    let i = c.loop-line.invariant in
    let one = line_on (g.I.Source.left c.args.source.now) i.lines _ c.in-Ok-Some.line _ i.taken (rw c.in-Ok-Some.field-0-is at c.in-Ok-Some.ensures.line) in
    history_ended g.N.Named.opening (moment g.S.Store.journal g.S.Store.faults g.S.Store.reads c.args.table.now) (moment g.S.Store.journal g.S.Store.faults g.S.Store.reads c.answer-answered.new.table) _ (g.I.Source.left c.args.source.now) _ (i.lines ++ one.0 ∷ []) ending.SinkFault c.stop_with-in-Err-write_all.result.ending (c.loop-line.answers ++ c.answer-answered.result ∷ []) c.stop_with-in-Err-write_all.result.answers
    c.stop_with-in-Err-write_all.ensures.ending (c.stop_with-in-Err-write_all.ensures.answers ∙ c.in-Ok-keep.ensures.kept)
    (fit_push g.N.Named.opening 0 i.lines c.loop-line.answers (moment g.S.Store.journal g.S.Store.faults g.S.Store.reads c.args.table.now) (moment g.S.Store.journal g.S.Store.faults g.S.Store.reads c.loop-line.table) (moment g.S.Store.journal g.S.Store.faults g.S.Store.reads c.answer-answered.new.table) one.0 c.answer-answered.result i.fits c.len-number.result (let n = c.len-number.ensures in omega (arith, n)) (c.answer-answered.ensures one.0 one.1))
    one.2 refl

pub returns-in-Err-write_all-clause-part : goal.returns-in-Err-write_all-clause-part
returns-in-Err-write_all-clause-part g c = λ _.
    let i = c.loop-line.invariant in
    let part = c.in-Err-write_all.ensures.err in
    let two = part.1 ∙ ap (λ (l : List ℕ). added (g.O.Sink.written c.loop-line.sink) (take part.0 l)) (c.as_bytes.ensures.value ∙ c.in-Ok-keep.ensures.text) in (
      length (printed_replies c.loop-line.answers) + part.0,
      written-part (g.O.Sink.written c.args.sink.now) (g.O.Sink.written c.loop-line.sink) _ c.loop-line.answers c.answer-answered.result part.0 i.written two
          ∙ ap (λ (kept : List Answered). added (g.O.Sink.written c.args.sink.now) (take (length (printed_replies c.loop-line.answers) + part.0) (printed_replies kept))) (sym (c.stop_with-in-Err-write_all.ensures.answers ∙ c.in-Ok-keep.ensures.kept)),
    )

pub loop-line-preserved : goal.loop-line-preserved
loop-line-preserved g c =
    let i = c.loop-line.invariant in
    let one = line_on (g.I.Source.left c.args.source.now) i.lines _ c.in-Ok-Some.line _ i.taken (rw c.in-Ok-Some.field-0-is at c.in-Ok-Some.ensures.line) in
    let did = c.in-Ok-write_all.ensures in
    let two = did.ok ∙ ap (λ (l : List ℕ). added (g.O.Sink.written c.loop-line.sink) l) (c.as_bytes.ensures.value ∙ c.in-Ok-keep.ensures.text) in record {
      lines = i.lines ++ one.0 ∷ [];
      taken = one.2;
      count = counts-trans 0 _ _ (g.I.Source.left c.args.source.now) (g.I.Source.left c.loop-line.source) (g.I.Source.left c.next_line.new.source) i.count c.next_line.ensures.count;
      fits = subst (λ (kept : List Answered). AnswersFit g.N.Named.opening 0 (i.lines ++ one.0 ∷ []) kept (moment g.S.Store.journal g.S.Store.faults g.S.Store.reads c.args.table.now) (moment g.S.Store.journal g.S.Store.faults g.S.Store.reads c.answer-answered.new.table)) (sym c.in-Ok-keep.ensures.kept)
          (fit_push g.N.Named.opening 0 i.lines c.loop-line.answers (moment g.S.Store.journal g.S.Store.faults g.S.Store.reads c.args.table.now) (moment g.S.Store.journal g.S.Store.faults g.S.Store.reads c.loop-line.table) (moment g.S.Store.journal g.S.Store.faults g.S.Store.reads c.answer-answered.new.table) one.0 c.answer-answered.result i.fits c.len-number.result (let n = c.len-number.ensures in omega (arith, n)) (c.answer-answered.ensures one.0 one.1));
      written = written-push (g.O.Sink.written c.args.sink.now) (g.O.Sink.written c.loop-line.sink) _ c.loop-line.answers c.answer-answered.result i.written two
          ∙ ap (λ (kept : List Answered). added (g.O.Sink.written c.args.sink.now) (printed_replies kept)) (sym c.in-Ok-keep.ensures.kept);
      source_faults = c.in-Ok-Some.ensures.faults ∙ i.source_faults;
      sink_faults = did.cause ∙ i.sink_faults;
    }

pub returns-in-Err-TooLong-clause-too_long : goal.returns-in-Err-TooLong-clause-too_long
returns-in-Err-TooLong-clause-too_long g c = λ _.
    let i = c.loop-line.invariant in
    subst (λ (t : ℕ). CountsBytes 0 (g.I.Source.left c.args.source.now) t (g.I.Source.left c.next_line.new.source)) (c.next_line.ensures.too_long (search rules))
    (counts-trans 0 _ _ (g.I.Source.left c.args.source.now) (g.I.Source.left c.loop-line.source) (g.I.Source.left c.next_line.new.source) i.count c.next_line.ensures.count)

pub returns-in-Err-TooLong-clause-cut : goal.returns-in-Err-TooLong-clause-cut
returns-in-Err-TooLong-clause-cut g c = λ _.
    let i = c.loop-line.invariant in
    subst (λ (l : List Answered). LinesAreCut (g.I.Source.left c.args.source.now) (length l) (g.I.Source.left c.next_line.new.source)) (sym c.stop_with-in-Err-TooLong.ensures.answers)
    (lines_cut (g.I.Source.left c.args.source.now) i.lines _ (g.I.Source.left c.next_line.new.source) (length c.loop-line.answers) i.taken
    (same_length g.N.Named.opening 0 i.lines c.loop-line.answers (moment g.S.Store.journal g.S.Store.faults g.S.Store.reads c.args.table.now) (moment g.S.Store.journal g.S.Store.faults g.S.Store.reads c.loop-line.table) i.fits)
    (c.next_line.ensures.cut (search rules)))

fewer : (input left : Option (List ℕ)) (taken : ℕ) → CountsBytes 0 input taken left → IfSome left (λ (l : List ℕ). l ≡ []) → taken < 2 ^ 40 → IfSome input (λ (l : List ℕ). length l < 2 ^ 40)
fewer None left taken count none less = tt
fewer (Some bytes) None taken count none less = absurd count
fewer (Some bytes) (Some l) taken count none less = let e = ap (λ (x : List ℕ). length x) none in omega (arith, e, count, less)

pub returns-in-Ok-None-clause-short : goal.returns-in-Ok-None-clause-short
returns-in-Ok-None-clause-short g c = λ _.
    let i = c.loop-line.invariant in
    fewer (g.I.Source.left c.args.source.now) (g.I.Source.left c.next_line.new.source) c.next_line.new.ahead.taken
    (counts-trans 0 _ _ (g.I.Source.left c.args.source.now) (g.I.Source.left c.loop-line.source) (g.I.Source.left c.next_line.new.source) i.count c.next_line.ensures.count)
    (nothing_left c.next_line.new.ahead.ahead (g.I.Source.left c.next_line.new.source)
    (subst (λ (o : Option (List ℕ)). IfSome o (λ (l : List ℕ). l ≡ [])) (sym (rw c.in-Ok-None.field-0-is at c.in-Ok-None.ensures.end)) (rw c.in-Ok-None.field-0-is at c.in-Ok-None.ensures.line)))
    (rw c.in-Ok-None.field-0-is at c.in-Ok-None.ensures.room)

pub returns-in_default-clause-history : goal.returns-in_default-clause-history
returns-in_default-clause-history g c =
    history_ended g.N.Named.opening (moment g.S.Store.journal g.S.Store.faults g.S.Store.reads c.args.table.now) (moment g.S.Store.journal g.S.Store.faults g.S.Store.reads c.args.table.now) (moment g.S.Store.journal g.S.Store.faults g.S.Store.reads c.args.table.now) (g.I.Source.left c.args.source.now) (g.I.Source.left c.args.source.now) [] ending.NoMemory c.stop_with.result.ending [] c.stop_with.result.answers
    c.stop_with.ensures.ending (c.stop_with.ensures.answers ∙ c.new-answers.ensures) refl (lines_start (g.I.Source.left c.args.source.now)) (inl refl)
