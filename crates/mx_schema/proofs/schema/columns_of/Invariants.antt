use Rattle.std.proofs.Common.{◌≡◌, map}
use Rattle.mx_schema.specs.Columns.{column_text, AreColumns}
use Rattle.mx_schema.proofs.schema.columns_of.Given as goal

abbrev pub invariant-loop-piece : goal.invariant-loop-piece
invariant-loop-piece l = record {
  can : (goal.iterator-loop-piece).can_next l.piece-iterator;
  ends : (goal.iterator-loop-piece).is_finite l.piece-iterator;
  columns : AreColumns l.columns;
  texts : map column_text l.columns ≡ map (λ piece. piece.now) l.yielded;
}
