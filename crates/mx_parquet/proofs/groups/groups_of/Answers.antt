use Rattle.std.proofs.lemmas.Result.{err_from_is_err_and}
use Rattle.mx_parquet.specs.Footer as footers
use Rattle.mx_parquet.proofs.InTurn.{one_more, one_fails, all_read}
use Rattle.mx_parquet.proofs.groups.groups_of.Goals as goal

pub returns-in_err-group_at : goal.returns-in_err-group_at
returns-in_err-group_at c =
    let p = err_from_is_err_and c.from_residual.result c.from_residual.ensures.1 in
    rw (p.1, p.2) (one_fails _ (footers.group_at c.args.len c.args.columns.now) _ _ _ _ _ c.in-Some.ensures.cases.0 c.in_err-group_at.ensures c.loop-item.invariant)

pub loop-item-preserved : goal.loop-item-preserved
loop-item-preserved c = one_more (footers.group_at c.args.len c.args.columns.now) _ _ _ _ _ _ _ c.in-Some.ensures.cases.0 c.in_ok-push.ensures.ok c.in_ok-group_at.ensures c.loop-item.invariant

pub returns : goal.returns
returns c = all_read (footers.group_at c.args.len c.args.columns.now) _ _ _ c.in_default.ensures.cases c.loop-item.invariant
