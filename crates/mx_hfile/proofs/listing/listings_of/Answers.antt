use Rattle.std.proofs.Common.{◌≡◌, ◌-◌, ◌++◌, ◌∷◌, [], suc, false, eqb, map, arith}
use Rattle.std.proofs.lemmas.Bool.Decides.{nat_tests}
use Rattle.std.proofs.lemmas.Result.{err_from_is_err_and}
use Rattle.std.proofs.lemmas.List.{map_push}
use Rattle.mx_hfile.specs.Seen.{seen}
use Rattle.mx_hfile.proofs.Loops.{more_listings, bad_listing, all_listings, short_listings}
use Rattle.mx_hfile.proofs.listing.listings_of.Goals as goal

pub returns-in_err-listing : goal.returns-in_err-listing
returns-in_err-listing c =
    let l = c.loop-more in
    let p = err_from_is_err_and c.from_residual.result c.from_residual.ensures.1 in
    let k : l.more ≡ suc (l.more - 1) = omega arith in
    rw (p.1, p.2) (bad_listing c.in_err-listing.field-0.0 (map seen l.listings.items) l.more (l.more - 1) l.at c.args.end l.last.now l.rest.now _ k c.in_err-listing.ensures.read l.invariant.read)

pub loop-more-preserved : goal.loop-more-preserved
loop-more-preserved c =
    let l = c.loop-more in
    let p = c.in_ok-listing.listing in
    let k : l.more ≡ suc (l.more - 1) = omega arith in
    let e : map seen c.push.new.self.items ≡ map seen l.listings.items ++ seen p ∷ [] = rw c.in_ok-push.ensures.items (map_push _ l.listings.items p) in
    record {
      read = rw e (more_listings (map seen l.listings.items) l.more (l.more - 1) l.at c.args.end l.last.now l.rest.now (seen p) c.in_ok-listing.behind.now _ k c.in_ok-listing.ensures.read l.invariant.read);
      within = c.in_ok-listing.ensures.within;
    }

pub returns-then-at-end : goal.returns-then-at-end
returns-then-at-end c =
    let l = c.loop-more in
    let ne : eqb l.at c.args.end ≡ false = grind (arith, nat_tests) in
    rw c.bad.ensures (short_listings (map seen l.listings.items) l.more l.at c.args.end l.last.now l.rest.now _ (omega arith) ne l.invariant.read)

pub returns : goal.returns
returns c =
    let l = c.loop-more in
    all_listings (map seen l.listings.items) l.more l.at c.args.end l.last.now l.rest.now _ (omega arith) (omega arith) l.invariant.read
