use Rattle.std.proofs.Common.{◌≡◌, ◌-◌, ◌<◌, ◌≤◌, ◌∙◌, [], length, false, true, eqb, arith, sym, ap}
use Rattle.std.proofs.lemmas.Bool.Decides.{nat_tests}
use Rattle.std.proofs.lemmas.Result.{err_from_is_err_and}
use Rattle.mx_hfile.specs.Decoding.{last_key}
use Rattle.mx_hfile.proofs.FieldLemmas.{entry_shorter}
use Rattle.mx_hfile.proofs.Loops.{more_entries, bad_entry, late_entry, no_entry, behind_bad, behind_fails, last_key-append}
use Rattle.mx_hfile.proofs.blocks.push_entries.Goals as goal

pub returns-then-len-rest-ge-FULL : goal.returns-then-len-rest-ge-FULL
returns-then-len-rest-ge-FULL c =
    let l = c.loop-rest in
    let test : eqb (length l.rest.now) 0 ≡ false = sym c.is_empty.ensures ∙ c.loop-rest-test.true in
    let some : 0 < length l.rest.now = grind (arith, nat_tests) in
    let full : 16_384 ≤ c.args.len - length l.rest.now = omega arith in
    rw c.bad.ensures (behind_bad c.args.entries.now.items _ _ (late_entry l.entries.items c.args.len l.last.now l.rest.now _ some full l.invariant.read))

pub returns-in_err-key : goal.returns-in_err-key
returns-in_err-key c =
    let l = c.loop-rest in
    let test : eqb (length l.rest.now) 0 ≡ false = sym c.is_empty.ensures ∙ c.loop-rest-test.true in
    let some : 0 < length l.rest.now = grind (arith, nat_tests) in
    let room : c.args.len - length l.rest.now < 16_384 = omega arith in
    let p = err_from_is_err_and c.from_residual.result c.from_residual.ensures.1 in
    rw (p.1, p.2) (behind_fails c.in_err-key.field-0.0 c.args.entries.now.items _ (bad_entry c.in_err-key.field-0.0 l.entries.items c.args.len l.last.now l.rest.now _ some room c.in_err-key.ensures.read l.invariant.read))

pub loop-rest-smaller : goal.loop-rest-smaller
loop-rest-smaller c = entry_shorter _ _ _ c.in_ok-key.ensures.read

pub loop-rest-preserved : goal.loop-rest-preserved
loop-rest-preserved c =
    let l = c.loop-rest in
    let test : eqb (length l.rest.now) 0 ≡ false = sym c.is_empty.ensures ∙ c.loop-rest-test.true in
    let some : 0 < length l.rest.now = grind (arith, nat_tests) in
    let room : c.args.len - length l.rest.now < 16_384 = omega arith in
    let short = entry_shorter _ _ _ c.in_ok-key.ensures.read in
    record {
      read = rw c.in_ok-push.ensures (more_entries l.entries.items c.args.len l.last.now l.rest.now _ c.in_ok-key.behind.now _ some room c.in_ok-key.ensures.read l.invariant.read);
      last = sym (ap (last_key []) c.in_ok-push.ensures ∙ last_key-append [] l.entries.items _);
      within = omega (arith, l.invariant.within, short);
    }

pub returns : goal.returns
returns c =
    let l = c.loop-rest in
    let test : eqb (length l.rest.now) 0 ≡ true = sym c.is_empty.ensures ∙ c.loop-rest-test.false in
    let none : length l.rest.now ≡ 0 = grind (arith, nat_tests) in
    (no_entry l.entries.items c.args.len l.last.now l.rest.now _ none l.invariant.read, l.invariant.last)
