use Rattle.std.proofs.Common.{◌≡◌, ◌∙◌, ◌<◌, eqb, false, true, sym, ap, arith, length, take, drop, ℕ}
use Rattle.std.proofs.lemmas.Bool.Decides.{nat_tests}
use Rattle.mx_parquet.proofs.Pages.{packed_step, packed_all}
use Rattle.mx_parquet.proofs.page.put_bits.Goals as goal

pub loop-rest-preserved : goal.loop-rest-preserved
loop-rest-preserved c =
    let l = c.loop-rest in
    let test : eqb (length l.rest.now) 0 ≡ false = sym c.is_empty.ensures ∙ c.loop-rest-test.true in
    let some : 0 < length l.rest.now = grind (arith, nat_tests) in
    packed_step l.rest.now c.split_at.result.0.now c.split_at.result.1.now c.byte_of.result l.out.items _ _ some
    (c.split_at.ensures.front ∙ ap (λ (n : ℕ). take n l.rest.now) c.min.ensures)
    (c.split_at.ensures.back ∙ ap (λ (n : ℕ). drop n l.rest.now) c.min.ensures)
    c.byte_of.ensures c.in_ok-push.ensures.items l.invariant

pub returns : goal.returns
returns c =
    let l = c.loop-rest in
    let test : eqb (length l.rest.now) 0 ≡ true = sym c.is_empty.ensures ∙ c.loop-rest-test.false in
    let none : length l.rest.now ≡ 0 = grind (arith, nat_tests) in
    packed_all l.rest.now l.out.items _ none l.invariant
