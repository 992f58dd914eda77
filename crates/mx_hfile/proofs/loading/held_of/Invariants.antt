use Rattle.std.proofs.Common.{◌≡◌, ◌+◌, ◌<◌, ◌^◌, map, take, drop}
use Rattle.mx_hfile.specs.Seen.{seen}
use Rattle.mx_hfile.specs.Held.{held_place, Follow}
use Rattle.mx_hfile.proofs.HeldLemmas.{total}
use Rattle.mx_hfile.proofs.loading.held_of.Given as goal

abbrev pub invariant-loop-listing : goal.invariant-loop-listing
invariant-loop-listing l = record {
  places : map held_place l.held.items ≡ map seen (take l.listing-index l.listings);
  at : l.at ≡ total (map held_place l.held.items);
  follow : Follow 0 l.held.items;
  room : l.at + total (map seen (drop l.listing-index l.listings)) < 2 ^ 64;
}
