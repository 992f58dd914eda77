use Rattle.std.proofs.Common.{◌≡◌, ◌≤◌, [], map}
use Rattle.mx_hfile.specs.Decoding.{listings_in}
use Rattle.mx_hfile.specs.Seen.{seen}
use Rattle.mx_hfile.proofs.Loops.{with_front}
use Rattle.mx_hfile.proofs.listing.listings_of.Given as goal

abbrev pub invariant-loop-more : goal.invariant-loop-more
invariant-loop-more l = record {
  read : with_front (map seen l.listings.items) (listings_in l.more l.at l.end l.last l.rest) ≡ listings_in l.blocks 0 l.end [] l.bytes;
  within : l.at ≤ l.end;
}

abbrev pub decreases-loop-more : goal.decreases-loop-more
decreases-loop-more l = l.more
