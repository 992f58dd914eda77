use Rattle.std.proofs.Common.{◌≡◌, ◌-◌, ◌+◌, ◌^◌, ◌≤◌, min, length, map}
use Rattle.mx_hfile.specs.Encoding.{blocks_bytes, blocks_of, listings, place_of}
use Rattle.mx_hfile.proofs.writing.sizes_of.Given as goal

abbrev pub invariant-loop-rest : goal.invariant-loop-rest
invariant-loop-rest l = record {
  bytes : min (l.sizes.data_len + length (blocks_bytes (blocks_of l.rest))) (2 ^ 64 - 1) ≡ min (length (blocks_bytes (blocks_of l.entries))) (2 ^ 64 - 1);
  index : min (l.sizes.index_len + length (listings 0 (map place_of (blocks_of l.rest)))) (2 ^ 64 - 1) ≡ min (16 + length (listings 0 (map place_of (blocks_of l.entries)))) (2 ^ 64 - 1);
  block_count : l.sizes.block_count + length (blocks_of l.rest) ≡ length (blocks_of l.entries);
  few : l.sizes.block_count + length l.rest ≤ length l.entries;
  bytes_fit : l.sizes.data_len ≤ 2 ^ 64 - 1;
  index_fits : l.sizes.index_len ≤ 2 ^ 64 - 1;
}

abbrev pub decreases-loop-rest : goal.decreases-loop-rest
decreases-loop-rest l = length l.rest
