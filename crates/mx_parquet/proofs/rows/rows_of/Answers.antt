use Rattle.std.proofs.Common.{Vec, Global}
use Rattle.std.proofs.lemmas.Result.{err_from_is_err_and}
use Rattle.mx_parquet.specs.declared.row.FullRow.{FullRow}
use Rattle.mx_parquet.proofs.RowGroupsSay.{no_group, one_group_more, all_groups, only_groups, group_fault}
use Rattle.mx_parquet.proofs.rows.rows_of.Goals as goal

pub returns-in_err-group_rows-clause-err : goal.returns-in_err-group_rows-clause-err
returns-in_err-group_rows-clause-err c =
    let p = err_from_is_err_and c.from_residual.result c.from_residual.ensures.1 in
    rw (p.1, p.2) (no_group (Vec FullRow Global) (Vec FullRow Global) c.args.file.now c.args.columns.now c.args.groups.now _ _ _ _ _ c.in-Some.ensures.cases.0 c.loop-group.invariant c.in_err-group_rows.ensures.err)

pub loop-group-preserved : goal.loop-group-preserved
loop-group-preserved c =
    one_group_more c.args.file.now c.args.columns.now c.args.groups.now _ _ _ c.loop-group.rows.items _ _ c.in-Some.ensures.cases.0 c.loop-group.invariant c.in_ok-group_rows.ensures.ok c.in_ok-group_rows.ensures.only c.in_ok-append.ensures.items

pub returns-clause-ok : goal.returns-clause-ok
returns-clause-ok c = all_groups c.args.file.now c.args.columns.now c.args.groups.now _ _ c.in_default.ensures.cases c.loop-group.invariant

pub returns-clause-only : goal.returns-clause-only
returns-clause-only c = only_groups c.args.file.now c.args.columns.now c.args.groups.now _ _ c.in_default.ensures.cases c.loop-group.invariant

pub returns-in_err-group_rows-clause-fault : goal.returns-in_err-group_rows-clause-fault
returns-in_err-group_rows-clause-fault c =
    let p = err_from_is_err_and c.from_residual.result c.from_residual.ensures.1 in
    rw (p.1, p.2) (group_fault (Vec FullRow Global) (Vec FullRow Global) c.args.file.now c.args.columns.now c.args.groups.now _ _ _ _ _ c.in-Some.ensures.cases.0 c.loop-group.invariant c.in_err-group_rows.ensures.fault)
