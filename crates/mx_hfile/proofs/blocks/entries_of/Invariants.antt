use Rattle.std.proofs.Common.{◌≡◌, ◌-◌, ◌≤◌, [], length, map, drop}
use Rattle.mx_hfile.specs.Decoding.{blocks_in, last_key}
use Rattle.mx_hfile.specs.Seen.{behind, seen, Covers}
use Rattle.mx_hfile.proofs.blocks.entries_of.Given as goal

abbrev pub invariant-loop-listing : goal.invariant-loop-listing
invariant-loop-listing l = record {
  read : behind l.entries.items (blocks_in l.last (length l.bytes - length l.rest) (map seen (drop l.listing-index l.listings)) l.rest) ≡ blocks_in [] 0 (map seen l.listings) l.bytes;
  last : l.last ≡ last_key [] l.entries.items;
  covers : Covers (length l.rest) (map seen (drop l.listing-index l.listings));
  within : length l.rest ≤ length l.bytes;
}
