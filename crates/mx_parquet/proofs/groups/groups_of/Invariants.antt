use Rattle.std.proofs.Common.{◌≡◌, length}
use Rattle.mx_parquet.specs.Reading.{each_in}
use Rattle.mx_parquet.specs.Footer as footers
use Rattle.mx_parquet.proofs.InTurn.{with_front}
use Rattle.mx_parquet.proofs.groups.groups_of.Given as goal

abbrev pub invariant-loop-item : goal.invariant-loop-item
invariant-loop-item l = with_front l.groups (each_in (footers.group_at l.len l.columns) l.rest) ≡ each_in (footers.group_at l.len l.columns) l.items

abbrev pub decreases-loop-item : goal.decreases-loop-item
decreases-loop-item l = length l.rest
