use Rattle.std.proofs.Common.{◌≡◌, ℕ, List}
use Rattle.mx_store.specs.Streams.{added}
use Rattle.mx_lines.specs.Ahead.{all_left, budget, CountsBytes}
use Rattle.mx_lines.specs.Lines.{LinesGo}
use Rattle.mx_hub.specs.History.{AnswersFit, moment, printed_replies}
use Rattle.mx_hub.proofs.serving.serve.Given as goal

abbrev pub invariant-loop-line : goal.invariant-loop-line
invariant-loop-line g l = record {
  lines : List (List ℕ);
  taken : LinesGo (g.I.Source.left l.fn.source) lines (all_left l.ahead (g.I.Source.left l.source));
  count : CountsBytes 0 (g.I.Source.left l.fn.source) l.ahead.taken (g.I.Source.left l.source);
  fits : AnswersFit g.N.Named.opening 0 lines l.answers (moment g.S.Store.journal g.S.Store.faults g.S.Store.reads l.fn.table) (moment g.S.Store.journal g.S.Store.faults g.S.Store.reads l.table);
  written : g.O.Sink.written l.sink ≡ added (g.O.Sink.written l.fn.sink) (printed_replies l.answers);
  source_faults : g.I.Source.faults l.source ≡ g.I.Source.faults l.fn.source;
  sink_faults : g.O.Sink.faults l.sink ≡ g.O.Sink.faults l.fn.sink;
}

abbrev pub decreases-loop-line : goal.decreases-loop-line
decreases-loop-line g l = budget l.ahead
