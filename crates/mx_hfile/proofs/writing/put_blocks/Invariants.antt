use Rattle.std.proofs.Common.{◌≡◌, ◌++◌, ◌≤◌, length}
use Rattle.std.specs.List.{AllByRecursion}
use Rattle.mx_hfile.specs.Encoding.{HasKey, blocks_bytes, blocks_of}
use Rattle.mx_hfile.proofs.writing.put_blocks.Given as goal

abbrev pub invariant-loop-rest : goal.invariant-loop-rest
invariant-loop-rest l = record {
  spelled : l.out.items ++ blocks_bytes (blocks_of l.rest) ≡ l.fn.out.items ++ blocks_bytes (blocks_of l.entries);
  keys : AllByRecursion HasKey l.rest;
  room : length (blocks_bytes (blocks_of l.rest)) ≤ 268_435_456;
}

abbrev pub decreases-loop-rest : goal.decreases-loop-rest
decreases-loop-rest l = length l.rest
