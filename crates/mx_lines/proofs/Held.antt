-- What is held of a line.
use Rattle.std.proofs.Common.{◌≡◌, ℕ, ◌-◌, ◌^◌, ◌<◌, ◌≤◌, List, ◌++◌, ◌∷◌, [], length, Option, sym, ap, subst, arith, length-append}
use Rattle.mx_lines.specs.declared.line.Line.{Line}
use Rattle.mx_lines.specs.declared.line.Line.TheVariants.{Whole, Long}
use Rattle.mx_lines.specs.Lines.{longest_line, IsLine, LinesGo, TakesLine}

module _ (line : Line) (bytes piece before : List ℕ) (is : line ≡ Whole bytes) (held : IsLine line before) where
  whole : (bytes ≡ before) × (length before ≤ longest_line)
  whole = subst (λ (l : Line). IsLine l before) is held

  pub held_bytes : bytes ≡ before
  held_bytes = whole.0

  pub grows_long : 2 ^ 22 - length bytes < length piece → longest_line < length (before ++ piece)
  unfolding longest_line
  grows_long more = omega (arith, more, whole.1, ap length whole.0, length-append before piece)

  pub grows_whole : length piece ≤ 2 ^ 22 - length bytes → length (before ++ piece) ≤ longest_line
  unfolding longest_line
  grows_whole more = omega (arith, more, whole.1, ap length whole.0, length-append before piece)

-- the next line was taken
pub line_taken : (old : Option (List ℕ)) (line : Line) (piece : List ℕ) (new : Option (List ℕ)) → IsLine line piece → LinesGo old (piece ∷ []) new → TakesLine old line new
line_taken old (Whole bytes) piece new held go =
    (subst (λ (l : List ℕ). length l ≤ longest_line) (sym held.0) held.1, subst (λ (l : List ℕ). LinesGo old (l ∷ []) new) (sym held.0) go)
line_taken old Long piece new held go = (piece, held, go)
