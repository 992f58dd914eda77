use Rattle.std.proofs.Common.{◌∙◌, ◌++◌, List, ℕ, ap, arith}
use Rattle.mx_lines.proofs.Held.{held_bytes, grows_long, grows_whole}
use Rattle.mx_lines.proofs.line.extended.Goals as goal

pub returns-then-piece-saturating_sub : goal.returns-then-piece-saturating_sub
returns-then-piece-saturating_sub c = λ before held.
    grows_long c.args.line c.in-Whole.bytes c.args.piece.now before c.in-Whole.is held (omega (arith, c.saturating_sub.ensures, c.len.ensures))

pub returns-in_ok-extend_from_slice-in-Whole : goal.returns-in_ok-extend_from_slice-in-Whole
returns-in_ok-extend_from_slice-in-Whole c = λ before held. (
  c.from_vec.ensures ∙ c.in_ok-extend_from_slice-in-Whole.ensures.items
      ∙ ap (λ (l : List ℕ). l ++ c.args.piece.now) (c.into_vec-bytes.ensures ∙ held_bytes c.args.line c.in-Whole.bytes c.args.piece.now before c.in-Whole.is held),
  grows_whole c.args.line c.in-Whole.bytes c.args.piece.now before c.in-Whole.is held (omega (arith, c.saturating_sub.ensures, c.len.ensures)),
)
