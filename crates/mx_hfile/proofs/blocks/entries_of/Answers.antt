use Rattle.std.proofs.Common.{◌≡◌, ◌+◌, ◌-◌, ◌≤◌, ◌<◌, ◌∷◌, length, map, drop, get_or, arith, sym, ap, subst, [], List, ℕ}
use Rattle.mx_hfile.specs.declared.listing.Listing.{Listing}
use Rattle.mx_hfile.specs.Encoding.{Place}
use Rattle.mx_hfile.specs.Decoding.{blocks_in, HasCause}
use Rattle.mx_hfile.specs.Seen.{seen, behind, Covers, placed_error}
use Rattle.mx_hfile.proofs.Loops.{more_blocks, bad_block, no_block, drop_next, drop_end}
use Rattle.mx_hfile.proofs.blocks.entries_of.Goals as goal

abbrev none : Listing
none = record { len = 0; key = record { ref_ptr = (0, 0); now = [] } }

-- the places from a block on
abbrev from : List Listing → ℕ → List Place
from ls i = map seen (drop i ls)

from_next : (ls : List Listing) (i : ℕ) → i < length ls → from ls i ≡ seen (get_or ls i none) ∷ from ls (i + 1)
from_next ls i lt = ap (map seen) (drop_next ls i none lt)

pub returns-in-Err-clause-read : goal.returns-in-Err-clause-read
returns-in-Err-clause-read c =
    let l = c.loop-listing in
    let p = seen (get_or c.args.listings.now l.listing-index none) in
    let more = from_next c.args.listings.now l.listing-index c.loop-listing-test.true in
    let covers = subst (λ (ps : List Place). Covers (length l.rest.now) ps) more l.invariant.covers in
    let within : length l.rest.now ≤ length c.args.bytes.now = l.invariant.within in
    let fits : p.len ≤ length l.rest.now = covers.0 in
    let read = subst (λ (ps : List Place). behind l.entries.items (blocks_in l.last.now (length c.args.bytes.now - length l.rest.now) ps l.rest.now) ≡ blocks_in [] 0 (map seen c.args.listings.now) c.args.bytes.now) more l.invariant.read in
    let back = c.split_at.ensures.back_len in
    let end : length c.args.bytes.now - length l.rest.now + p.len ≡ length c.args.bytes.now - length c.split_at.result.1.now = omega (arith, back) in
    rw c.before-in-Err.ensures.place
    (subst (λ (n : ℕ). HasCause (placed_error n c.in-Err.fault) (blocks_in [] 0 (map seen c.args.listings.now) c.args.bytes.now)) end
    (bad_block c.in-Err.fault l.entries.items l.last.now (length c.args.bytes.now - length l.rest.now) p (from c.args.listings.now (l.listing-index + 1)) l.rest.now c.split_at.result.0.now _
    c.split_at.ensures.front c.in-Err.ensures read))

pub loop-listing-preserved : goal.loop-listing-preserved
loop-listing-preserved c =
    let l = c.loop-listing in
    let p = seen (get_or c.args.listings.now l.listing-index none) in
    let more = from_next c.args.listings.now l.listing-index c.loop-listing-test.true in
    let covers = subst (λ (ps : List Place). Covers (length l.rest.now) ps) more l.invariant.covers in
    let within : length l.rest.now ≤ length c.args.bytes.now = l.invariant.within in
    let fits : p.len ≤ length l.rest.now = covers.0 in
    let read = subst (λ (ps : List Place). behind l.entries.items (blocks_in l.last.now (length c.args.bytes.now - length l.rest.now) ps l.rest.now) ≡ blocks_in [] 0 (map seen c.args.listings.now) c.args.bytes.now) more l.invariant.read in
    let sum = c.split_at.ensures.back_len in
    let back : length c.split_at.result.1.now ≡ length l.rest.now - p.len = omega (arith, sum) in
    let end : length c.args.bytes.now - length l.rest.now + p.len ≡ length c.args.bytes.now - length c.split_at.result.1.now = omega arith in
    record {
      read = subst (λ (n : ℕ). behind c.push_block.new.entries.items (blocks_in c.in-Ok.key.now n (from c.args.listings.now (l.listing-index + 1)) c.split_at.result.1.now) ≡ blocks_in [] 0 (map seen c.args.listings.now) c.args.bytes.now) end
          (more_blocks l.entries.items l.last.now (length c.args.bytes.now - length l.rest.now) p (from c.args.listings.now (l.listing-index + 1)) l.rest.now c.split_at.result.0.now c.split_at.result.1.now c.push_block.new.entries.items c.in-Ok.key.now _
          l.invariant.last c.split_at.ensures.front c.split_at.ensures.back c.in-Ok.ensures.0 c.in-Ok.ensures.1 read);
      last = c.in-Ok.ensures.1;
      covers = subst (λ (n : ℕ). Covers n (from c.args.listings.now (l.listing-index + 1))) (sym back) covers.1;
      within = omega arith;
    }

pub returns-clause-read : goal.returns-clause-read
returns-clause-read c =
    let l = c.loop-listing in
    let done : from c.args.listings.now l.listing-index ≡ [] = ap (map seen) (drop_end c.args.listings.now l.listing-index (omega arith)) in
    let read = subst (λ (ps : List Place). behind l.entries.items (blocks_in l.last.now (length c.args.bytes.now - length l.rest.now) ps l.rest.now) ≡ blocks_in [] 0 (map seen c.args.listings.now) c.args.bytes.now) done l.invariant.read in
    no_block l.entries.items l.last.now (length c.args.bytes.now - length l.rest.now) l.rest.now _ read
