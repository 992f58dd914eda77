use Rattle.std.proofs.Common.{◌≡◌, ◌∙◌, length, arith, sym, subst, eqb, true, ap}
use Rattle.std.specs.List.{AllByRecursion}
use Rattle.std.proofs.lemmas.Bool.Decides.{nat_tests}
use Rattle.mx_hfile.specs.Encoding.{HasKey, body}
use Rattle.mx_hfile.proofs.DividingLemmas.{more_listings_put, all_listings_put, bytes-length, keys_split, first_key_fits}
use Rattle.mx_hfile.proofs.writing.put_listings.Goals as goal

pub put_listing-requires : goal.put_listing-requires
put_listing-requires c =
    let keys = (keys_split c.first_block.result.0.now c.first_block.result.1.now (subst (AllByRecursion HasKey) c.first_block.ensures.whole c.loop-rest.invariant.keys)).0 in
    omega (arith, first_key_fits c.first_block.result.0.now keys, ap length c.first_key.ensures)

pub loop-rest-preserved : goal.loop-rest-preserved
loop-rest-preserved c =
    let l = c.loop-rest in
    let b = c.first_block.result.0.now in
    let all = bytes-length l.rest.now _ b c.first_block.ensures.cut in
    let len : c.body_len.result ≡ length (body b) = omega (arith, all, l.invariant.room) in
    record {
      spelled = more_listings_put l.at _ _ l.rest.now _ b _ l.out.items _ _ c.first_block.ensures.cut (omega arith) (omega arith) c.first_key.ensures c.in_ok-put_listing.ensures l.invariant.spelled;
      keys = (keys_split _ _ (subst (AllByRecursion HasKey) c.first_block.ensures.whole l.invariant.keys)).1;
      room = omega (arith, all, l.invariant.room);
    }

pub returns : goal.returns
returns c =
    let l = c.loop-rest in
    let test : eqb (length l.rest.now) 0 ≡ true = sym c.is_empty.ensures ∙ c.loop-rest-test.false in
    let none : length l.rest.now ≡ 0 = grind (arith, nat_tests) in
    all_listings_put l.at l.rest.now l.out.items _ none l.invariant.spelled
