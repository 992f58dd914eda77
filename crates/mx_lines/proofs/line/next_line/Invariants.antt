use Rattle.std.proofs.Common.{◌≡◌, ◌+◌, ℕ, List, [], length}
use Rattle.mx_lines.specs.Ahead.{all_left, budget, CountsBytes}
use Rattle.mx_lines.specs.Lines.{IsLine, PieceGoes}
use Rattle.mx_lines.proofs.line.next_line.Given as goal

abbrev pub invariant-loop-line : goal.invariant-loop-line
invariant-loop-line g l = record {
  piece : List ℕ;
  held : IsLine l.line piece;
  so_far : PieceGoes (all_left l.fn.ahead (g.I.Source.left l.fn.source)) piece (all_left l.ahead (g.I.Source.left l.source));
  nothing : piece ≡ [] → all_left l.ahead (g.I.Source.left l.source) ≡ all_left l.fn.ahead (g.I.Source.left l.fn.source);
  spent : budget l.ahead + length piece ≡ budget l.fn.ahead;
  count : CountsBytes l.fn.ahead.taken (g.I.Source.left l.fn.source) l.ahead.taken (g.I.Source.left l.source);
  faults : g.I.Source.faults l.source ≡ g.I.Source.faults l.fn.source;
}

abbrev pub decreases-loop-line : goal.decreases-loop-line
decreases-loop-line g l = budget l.ahead
