use Rattle.std.proofs.Common.{◌≡◌, map}
use Rattle.mx_base.specs.Parts.{part_name}
use Rattle.mx_props.proofs.parts.parts_of.Given as goal

abbrev pub invariant-loop-piece : goal.invariant-loop-piece
invariant-loop-piece l = record {
  can : (goal.iterator-loop-piece).can_next l.piece-iterator;
  ends : (goal.iterator-loop-piece).is_finite l.piece-iterator;
  texts : map part_name l.parts ≡ map (λ piece. piece.now) l.yielded;
}
