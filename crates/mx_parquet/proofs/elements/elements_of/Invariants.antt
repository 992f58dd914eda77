use Rattle.std.proofs.Common.{◌≡◌, length}
use Rattle.mx_parquet.specs.Reading.{each_in}
use Rattle.mx_parquet.specs.Footer as footers
use Rattle.mx_parquet.proofs.InTurn.{with_front}
use Rattle.mx_parquet.proofs.elements.elements_of.Given as goal

abbrev pub invariant-loop-element : goal.invariant-loop-element
invariant-loop-element l = with_front l.columns (each_in footers.element_at l.rest) ≡ each_in footers.element_at l.elements

abbrev pub decreases-loop-element : goal.decreases-loop-element
decreases-loop-element l = length l.rest
