use Rattle.std.proofs.Common.{◌≡◌, ◌∙◌, length, arith, sym, subst, eqb, true}
use Rattle.std.specs.List.{AllByRecursion}
use Rattle.std.proofs.lemmas.Bool.Decides.{nat_tests}
use Rattle.mx_hfile.specs.Encoding.{HasKey}
use Rattle.mx_hfile.proofs.DividingLemmas.{more_bytes, all_bytes, bytes-length, keys_split}
use Rattle.mx_hfile.proofs.writing.put_blocks.Goals as goal

pub put_block-requires-clause-keys : goal.put_block-requires-clause-keys
put_block-requires-clause-keys c = (keys_split _ _ (subst (AllByRecursion HasKey) c.first_block.ensures.whole c.loop-rest.invariant.keys)).0

pub put_block-requires-clause-room : goal.put_block-requires-clause-room
put_block-requires-clause-room c = omega (arith, bytes-length _ _ _ c.first_block.ensures.cut, c.loop-rest.invariant.room)

pub loop-rest-preserved : goal.loop-rest-preserved
loop-rest-preserved c =
    let l = c.loop-rest in
    record {
      spelled = more_bytes l.rest.now _ _ l.out.items _ _ c.first_block.ensures.cut c.in_ok-put_block.ensures l.invariant.spelled;
      keys = (keys_split _ _ (subst (AllByRecursion HasKey) c.first_block.ensures.whole l.invariant.keys)).1;
      room = omega (arith, bytes-length _ _ _ c.first_block.ensures.cut, l.invariant.room);
    }

pub returns : goal.returns
returns c =
    let l = c.loop-rest in
    let test : eqb (length l.rest.now) 0 ≡ true = sym c.is_empty.ensures ∙ c.loop-rest-test.false in
    let none : length l.rest.now ≡ 0 = grind (arith, nat_tests) in
    all_bytes l.rest.now l.out.items _ none l.invariant.spelled
