use Rattle.std.proofs.Common.{◌≡◌, ◌∙◌, length, map, arith, sym, eqb, true, ap}
use Rattle.std.proofs.lemmas.Bool.Decides.{nat_tests}
use Rattle.mx_hfile.specs.Encoding.{blocks_of, place_of}
use Rattle.mx_hfile.proofs.PlaceLemmas.{index-length}
use Rattle.mx_hfile.proofs.DividingLemmas.{bytes-length, listings-first-length, one_less, nothing_left}
use Rattle.mx_hfile.proofs.writing.sizes_of.Goals as goal

pub loop-rest-preserved : goal.loop-rest-preserved
loop-rest-preserved c =
    let l = c.loop-rest in
    let e = c.first_block.ensures.cut in
    record {
      bytes = omega (arith, bytes-length _ _ _ e, l.invariant.bytes);
      index = omega (arith, listings-first-length _ _ _ e, ap length c.first_key.ensures, l.invariant.index);
      block_count = omega (arith, one_less _ _ _ e, l.invariant.block_count);
      few = omega (arith, c.first_block.ensures.behind, l.invariant.few);
      bytes_fit = omega arith;
      index_fits = omega arith;
    }

pub returns-clause-data_len : goal.returns-clause-data_len
returns-clause-data_len c =
    let l = c.loop-rest in
    let test : eqb (length l.rest.now) 0 ≡ true = sym c.is_empty.ensures ∙ c.loop-rest-test.false in
    let none : length l.rest.now ≡ 0 = grind (arith, nat_tests) in
    omega (arith, (nothing_left l.rest.now none).0, l.invariant.bytes, l.invariant.bytes_fit)

pub returns-clause-index_len : goal.returns-clause-index_len
returns-clause-index_len c =
    let l = c.loop-rest in
    let test : eqb (length l.rest.now) 0 ≡ true = sym c.is_empty.ensures ∙ c.loop-rest-test.false in
    let none : length l.rest.now ≡ 0 = grind (arith, nat_tests) in
    omega (arith, (nothing_left l.rest.now none).1, l.invariant.index, l.invariant.index_fits, index-length (map place_of (blocks_of c.args.entries.now)))

pub returns-clause-block_count : goal.returns-clause-block_count
returns-clause-block_count c =
    let l = c.loop-rest in
    let test : eqb (length l.rest.now) 0 ≡ true = sym c.is_empty.ensures ∙ c.loop-rest-test.false in
    let none : length l.rest.now ≡ 0 = grind (arith, nat_tests) in
    omega (arith, (nothing_left l.rest.now none).2, l.invariant.block_count)
