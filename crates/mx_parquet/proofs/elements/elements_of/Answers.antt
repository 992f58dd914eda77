use Rattle.std.proofs.lemmas.Result.{err_from_is_err_and}
use Rattle.mx_parquet.specs.Footer as footers
use Rattle.mx_parquet.proofs.InTurn.{one_more, one_fails, all_read}
use Rattle.mx_parquet.proofs.elements.elements_of.Goals as goal

pub returns-in_err-element_at : goal.returns-in_err-element_at
returns-in_err-element_at c =
    let p = err_from_is_err_and c.from_residual.result c.from_residual.ensures.1 in
    rw (p.1, p.2) (one_fails _ footers.element_at _ _ _ _ _ c.in-Some.ensures.cases.0 c.in_err-element_at.ensures c.loop-element.invariant)

pub loop-element-preserved : goal.loop-element-preserved
loop-element-preserved c = one_more footers.element_at _ _ _ _ _ _ _ c.in-Some.ensures.cases.0 c.in_ok-push.ensures.ok c.in_ok-element_at.ensures c.loop-element.invariant

pub returns : goal.returns
returns c = all_read footers.element_at _ _ _ c.in_default.ensures.cases c.loop-element.invariant
