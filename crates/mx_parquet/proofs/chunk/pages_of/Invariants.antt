use Rattle.std.proofs.Common.{◌≤◌, ◌-◌, length, drop}
use Rattle.mx_parquet.specs.Faults.{ArePagesUpTo}
use Rattle.mx_parquet.proofs.ChunkSays.{ReadUpTo}
use Rattle.mx_parquet.proofs.chunk.pages_of.Given as goal

abbrev pub invariant-loop-at : goal.invariant-loop-at
invariant-loop-at l = record {
  so_far : ReadUpTo l.column l.row_count (drop l.offset l.bytes) (drop l.at l.bytes) l.cells.items;
  found : ArePagesUpTo l.column (drop l.offset l.bytes) (drop l.at l.bytes) (length l.cells.items);
  few : length l.cells.items ≤ l.row_count;
}

abbrev pub decreases-loop-at : goal.decreases-loop-at
decreases-loop-at l = length l.bytes - l.at
