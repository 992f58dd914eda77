use Rattle.std.proofs.Common.{◌≡◌, ℕ, ◌-◌, ◌+◌, ◌<◌, ◌≤◌, ◌∙◌, length, Bool, false, true, cond, eqb, Some, None, arith, sym, ap}
use Rattle.std.proofs.lemmas.Bool.Decides.{nat_tests}
use Rattle.std.proofs.lemmas.Result.{err_from_is_err_and}
use Rattle.mx_base.specs.declared.entry.Entry.{Entry}
use Rattle.mx_hfile.specs.Encoding.{entry_bytes}
use Rattle.mx_hfile.specs.Decoding.{is_same}
use Rattle.mx_hfile.specs.Seen.{earlier}
use Rattle.mx_hfile.proofs.FieldLemmas.{entry_shorter, entry_left}
use Rattle.mx_hfile.proofs.DividingLemmas.{entry-length}
use Rattle.mx_hfile.proofs.SearchLemmas.{more_places, bad_place, late_place, no_place_left}
use Rattle.mx_hfile.proofs.searching.value_in.Goals as goal

pub returns-then-body-rest-ge-FULL-clause-read : goal.returns-then-body-rest-ge-FULL-clause-read
returns-then-body-rest-ge-FULL-clause-read c =
    let l = c.loop-key in
    let test : eqb (length l.rest.now) 0 ≡ false = sym c.is_empty.ensures ∙ c.loop-key-test.true in
    let some : 0 < length l.rest.now = grind (arith, nat_tests) in
    let full : 16_384 ≤ length c.args.body.now - length l.rest.now = omega arith in
    rw c.bad.ensures (late_place c.args.key.now l.found _ (length c.args.body.now) l.last.now l.rest.now _ some full l.invariant.read)

pub returns-in_err-next-clause-read : goal.returns-in_err-next-clause-read
returns-in_err-next-clause-read c =
    let l = c.loop-key in
    let test : eqb (length l.rest.now) 0 ≡ false = sym c.is_empty.ensures ∙ c.loop-key-test.true in
    let some : 0 < length l.rest.now = grind (arith, nat_tests) in
    let room : length c.args.body.now - length l.rest.now < 16_384 = omega arith in
    let p = err_from_is_err_and c.from_residual.result c.from_residual.ensures.1 in
    rw (p.1, p.2) (bad_place c.in_err-next.field-0.0 c.args.key.now l.found _ (length c.args.body.now) l.last.now l.rest.now _ some room c.in_err-next.ensures.read l.invariant.read)

pub overflow_sub-end : goal.overflow_sub-end
overflow_sub-end c =
    let l = c.loop-key in
    let left = entry_left _ _ _ c.in_ok-next.ensures.read in
    omega (arith, left, l.invariant.within, c.requires)

pub overflow_sub-start : goal.overflow_sub-start
overflow_sub-start c =
    let l = c.loop-key in
    let left = entry_left _ _ _ c.in_ok-next.ensures.read in
    omega (arith, left, l.invariant.within, c.requires)

pub loop-key-smaller : goal.loop-key-smaller
loop-key-smaller c = entry_shorter _ _ _ c.in_ok-next.ensures.read

pub loop-key-preserved : goal.loop-key-preserved
loop-key-preserved c =
    let l = c.loop-key in
    let test : eqb (length l.rest.now) 0 ≡ false = sym c.is_empty.ensures ∙ c.loop-key-test.true in
    let some : 0 < length l.rest.now = grind (arith, nat_tests) in
    let room : length c.args.body.now - length l.rest.now < 16_384 = omega arith in
    let left = entry_left _ _ _ c.in_ok-next.ensures.read in
    let e : Entry = record { key = c.in_ok-next.next.now; value = c.in_ok-next.value.now } in
    let len = entry-length e in
    let at : ℕ = c.args.len - length l.rest.now in
    let end : ℕ = c.args.len - length c.in_ok-next.behind.now in
    let start : ℕ = end - length c.in_ok-next.value.now in
    let new : c.earlier-found.result ≡ earlier l.found (cond (is_same e.key c.args.key.now) (Some (start, end)) None) =
    c.earlier-found.ensures ∙ ap (λ (b : Bool). earlier l.found (cond b (Some (start, end)) None)) c.eq.ensures in
    let start-is : start ≡ at + (6 + length e.key) = omega (arith, left, l.invariant.within, c.requires) in
    let end-is : end ≡ at + length (entry_bytes e) = omega (arith, left, len, l.invariant.within, c.requires) in
    record {
      read = more_places c.args.key.now l.found c.earlier-found.result at start end (length c.args.body.now) l.last.now l.rest.now e c.in_ok-next.behind.now _ some room c.in_ok-next.ensures.read new start-is end-is l.invariant.read;
      within = omega (arith, left, l.invariant.within);
    }

pub returns-clause-read : goal.returns-clause-read
returns-clause-read c =
    let l = c.loop-key in
    let test : eqb (length l.rest.now) 0 ≡ true = sym c.is_empty.ensures ∙ c.loop-key-test.false in
    let none : length l.rest.now ≡ 0 = grind (arith, nat_tests) in
    no_place_left c.args.key.now l.found _ (length c.args.body.now) l.last.now l.rest.now _ none l.invariant.read
