use Rattle.std.proofs.Common.{◌≡◌, ◌-◌, ◌^◌, min, length, take, drop}
use Rattle.mx_hfile.specs.Encoding.{body, blocks_from, blocks_of}
use Rattle.mx_hfile.proofs.dividing.first_block.Given as goal

abbrev pub invariant-loop-count : goal.invariant-loop-count
invariant-loop-count l = record {
  blocks : blocks_of l.entries ≡ blocks_from (take l.count l.entries) (drop l.count l.entries);
  len : l.len ≡ min (length (body (take l.count l.entries))) (2 ^ 64 - 1);
}
