use Rattle.std.proofs.Common.{◌≡◌, ◌+◌, ◌<◌, rules, false, ◌++◌, ◌∙◌, List, ℕ, length, sym, ap, subst, arith, length-append, []}
use Rattle.mx_lines.specs.Lines.{before_newline, has_newline}
use Rattle.mx_lines.specs.Ahead.{CountsBytes}
use Rattle.mx_lines.proofs.Counting.{counts-trans}
use Rattle.mx_lines.proofs.Held.{line_taken}
use Rattle.mx_lines.proofs.Newlines.{piece_ends, piece_goes_on, whole_before, nothing_after}
use Rattle.mx_lines.proofs.line.next_line.Goals as goal

pub returns-then-ended-clause-line : goal.returns-then-ended-clause-line
returns-then-ended-clause-line g c =
    let i = c.loop-line.invariant in
    let took = c.in_ok-more.ensures in
    line_taken _ c.in_ok-more.more (i.piece ++ before_newline c.fill.new.ahead.ahead) _ (took.line i.piece i.held)
    (piece_ends _ i.piece _ c.fill.new.ahead.ahead c.take_piece.new.ahead.ahead _ i.so_far c.in_ok-fill.ensures.left took.ahead (sym took.ended ∙ c.if-ended.true))

pub loop-line-preserved : goal.loop-line-preserved
loop-line-preserved g c =
    let i = c.loop-line.invariant in
    let took = c.in_ok-more.ensures in
    let xs : List ℕ = c.fill.new.ahead.ahead in
    let goes : has_newline xs ≡ false = sym took.ended ∙ c.if-ended.false in
    let some : 0 < length xs = search rules in
    let size : length (i.piece ++ before_newline xs) ≡ length i.piece + length xs = omega (arith, length-append i.piece (before_newline xs), whole_before xs goes) in
    record {
      piece = i.piece ++ before_newline c.fill.new.ahead.ahead;
      held = took.line i.piece i.held;
      so_far = piece_goes_on _ i.piece _ c.fill.new.ahead.ahead c.take_piece.new.ahead.ahead _ i.so_far c.in_ok-fill.ensures.left took.ahead goes;
      nothing = λ (none : i.piece ++ before_newline xs ≡ []). absurd (omega (arith, ap length none, size, some));
      spent = omega (arith, size, i.spent, c.in_ok-fill.ensures.budget, ap length took.ahead, nothing_after xs goes, took.taken);
      count = subst (λ (t : ℕ). CountsBytes c.args.ahead.now.taken (g.I.Source.left c.args.source.now) t (g.I.Source.left c.fill.new.source)) (sym took.taken)
          (counts-trans _ _ _ (g.I.Source.left c.args.source.now) (g.I.Source.left c.loop-line.source) (g.I.Source.left c.fill.new.source) i.count c.fill.ensures.count);
      faults = c.in_ok-fill.ensures.faults ∙ i.faults;
    }
