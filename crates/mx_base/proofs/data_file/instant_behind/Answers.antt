use Rattle.std.proofs.Common.{◌∙◌, List, ℕ, not, nat_eq, sym, ap, arith}
use Rattle.std.specs.Prelude.{codes}
use lib.Pointwise.{pointwise}
use Rattle.mx_base.proofs.DataLemmas.{dated}
use Rattle.mx_base.proofs.ObjectReadings.{prefixed}
use Rattle.mx_base.proofs.data_file.instant_behind.Goals as goal

pub returns-then-ne : goal.returns-then-ne
returns-then-ne c at meant small same =
    let read = c.in-Some-split_instant.ensures in
    let behind = prefixed (codes "_0-0-0_") c.in-Some.name.now c.args.rest.now _ c.in-Some.ensures.cases.1.1 c.in-Some.ensures.cases.2 in
    let parts = dated c.args.rest.now c.in-Some.name.now c.in-Some-split_instant.ending.now c.in-Some-split_instant.number (sym behind) read.0 read.1 at small same in
    absurd (cc (c.if-ne.ensures ∙ ap (λ (l : List ℕ). not (pointwise nat_eq l (codes ".parquet"))) parts.1))

pub returns-then-number-eq0 : goal.returns-then-number-eq0
returns-then-number-eq0 c at meant small same =
    let read = c.in-Some-split_instant.ensures in
    let behind = prefixed (codes "_0-0-0_") c.in-Some.name.now c.args.rest.now _ c.in-Some.ensures.cases.1.1 c.in-Some.ensures.cases.2 in
    let parts = dated c.args.rest.now c.in-Some.name.now c.in-Some-split_instant.ending.now c.in-Some-split_instant.number (sym behind) read.0 read.1 at small same in
    absurd (omega (arith, parts.0, meant, c.if-number-eq0.true))
