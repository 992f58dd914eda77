use Rattle.std.proofs.Common.{◌≡◌, ◌-◌, ◌<◌, true, false, eqb, length, length-take, arith, refl, sym, ◌∙◌, subst, inl, inr, List, Bool, ap, ℕ}
use Rattle.std.proofs.lemmas.Bool.Decides.{nat_tests}
use Rattle.mx_levels.specs.Decoding.{Fits, seen}
use Rattle.mx_levels.proofs.DecodingLemmas.{SoFar, so_far-more, so_far-bad, so_far-all, not_bad, Decodes-unique, fits_none}
use Rattle.mx_levels.proofs.reading.read_levels.Goals as goal

pub returns-in_default-clause-only : goal.returns-in_default-clause-only
returns-in_default-clause-only c = λ levels d.
    let l = c.loop-levels in
    let left : c.len-in-loop-levels.result ≡ length l.levels.items = omega arith in
    let less : length l.levels.items < c.args.count = omega arith in
    absurd (
    not_bad c.args.bytes.now c.args.count _ levels d (
    so_far-bad c.args.bytes.now l.rest.now c.args.count _ l.levels.items l.invariant.so_far refl (inl less)
    (λ run behind fits parts. c.in_default.ensures run behind (subst (λ (n : ℕ). Fits (c.args.count - n) run) (sym left) fits) parts)
    )
    )

pub loop-levels-preserved : goal.loop-levels-preserved
loop-levels-preserved c =
    let l = c.loop-levels in
    let left : c.len-in-loop-levels.result ≡ length l.levels.items = omega arith in
    let less : length l.levels.items < c.args.count = omega arith in
    let found = c.in-Some.ensures in
    record {
      so_far =
          subst (λ (items : List Bool). SoFar c.args.bytes.now c.in-Some.behind.now c.args.count items) (sym c.in_ok-push_run.ensures)
          (so_far-more c.args.bytes.now l.rest.now c.in-Some.behind.now c.args.count l.levels.items (seen c.in-Some.run') l.invariant.so_far less
          (subst (λ (n : ℕ). Fits (c.args.count - n) (seen c.in-Some.run')) left found.0) found.1);
      within = omega (arith, ap length c.in_ok-push_run.ensures, length-take {A = Bool});
    }

pub returns-then-not-is_empty-clause-only : goal.returns-then-not-is_empty-clause-only
returns-then-not-is_empty-clause-only c = λ levels d.
    let l = c.loop-levels in
    let test : eqb (length l.rest.now) 0 ≡ false = sym c.is_empty.ensures ∙ c.if-not-is_empty.true in
    let some : 0 < length l.rest.now = grind (arith, nat_tests) in
    let none : c.args.count - length l.levels.items ≡ 0 = omega arith in
    absurd (
    not_bad c.args.bytes.now c.args.count _ levels d (
    so_far-bad c.args.bytes.now l.rest.now c.args.count _ l.levels.items l.invariant.so_far refl (inr some)
    (λ run behind fits parts. fits_none run _ none fits)
    )
    )

pub returns-clause-only : goal.returns-clause-only
returns-clause-only c = λ levels d.
    let l = c.loop-levels in
    let test : eqb (length l.rest.now) 0 ≡ true = sym c.is_empty.ensures ∙ c.if-not-is_empty.false in
    let none : length l.rest.now ≡ 0 = grind (arith, nat_tests) in
    Decodes-unique c.args.bytes.now c.args.count l.levels.items levels
    (so_far-all c.args.bytes.now l.rest.now c.args.count l.levels.items l.invariant.so_far (omega arith) none) d
