use Rattle.std.proofs.Common.{◌∙◌, sym, refl, Vec, Global}
use Rattle.std.proofs.lemmas.Result.{err_from_is_err_and}
use Rattle.mx_parquet.specs.declared.row.FullRow.{FullRow}
use Rattle.mx_parquet.proofs.FirstColumn.{blanks, first_filled, all_columns, group_is, others_refuse, others_fail}
use Rattle.mx_parquet.proofs.RowGroupsSay.{group_only}
use Rattle.mx_parquet.proofs.rows.group_rows.Goals as goal

pub fill_columns-requires-clause-as_long : goal.fill_columns-requires-clause-as_long
fill_columns-requires-clause-as_long c = (first_filled _ c.args.group.now.row_count _ _ _ c.in_ok-cells.ensures.found.0 c.in_ok-rows.ensures).as_long

pub returns-in_err-fill_columns-clause-err : goal.returns-in_err-fill_columns-clause-err
returns-in_err-fill_columns-clause-err c =
    let p = err_from_is_err_and c.from_residual-in_err-fill_columns.result c.from_residual-in_err-fill_columns.ensures.1 in
    let are = sym c.as_slice.ensures ∙ c.in-Some-split_first.ensures.cases.0 in
    rw (p.1, p.2) (others_refuse (Unit {0}) (Vec FullRow Global) c.args.file.now c.args.columns.now _ c.args.group.now _ _ _ _ _ _ c.in-Some.ensures.cases.0 are c.in_ok-cells.ensures.found.0 c.in_ok-rows.ensures c.in_err-fill_columns.ensures.err)

pub returns-in_err-fill_columns-clause-fault : goal.returns-in_err-fill_columns-clause-fault
returns-in_err-fill_columns-clause-fault c =
    let p = err_from_is_err_and c.from_residual-in_err-fill_columns.result c.from_residual-in_err-fill_columns.ensures.1 in
    let are = sym c.as_slice.ensures ∙ c.in-Some-split_first.ensures.cases.0 in
    rw (p.1, p.2) (others_fail (Unit {0}) (Vec FullRow Global) c.args.file.now c.args.columns.now _ c.args.group.now _ _ _ _ _ _ c.in-Some.ensures.cases.0 are c.in_ok-cells.ensures.found.0 c.in_ok-rows.ensures c.in_err-fill_columns.ensures.fault)

pub returns-clause-ok : goal.returns-clause-ok
returns-clause-ok c =
    let are = sym c.as_slice.ensures ∙ c.in-Some-split_first.ensures.cases.0 in
    group_is c.args.file.now c.args.columns.now c.args.group.now _
    (all_columns c.args.file.now c.args.columns.now _ c.args.group.now _ _ _ _ _ _ c.in-Some.ensures.cases.0 are c.in_ok-cells.ensures.found c.in_ok-rows.ensures c.in_ok-fill_columns.ensures.ok)

pub returns-clause-only : goal.returns-clause-only
returns-clause-only c = λ others is.
    let are = sym c.as_slice.ensures ∙ c.in-Some-split_first.ensures.cases.0 in
    group_only c.args.file.now c.args.columns.now c.args.group.now c.args.group.now.chunks (blanks c.args.group.now.row_count) _ others c.requires.hudi refl refl
    (all_columns c.args.file.now c.args.columns.now _ c.args.group.now _ _ _ _ _ _ c.in-Some.ensures.cases.0 are c.in_ok-cells.ensures.found c.in_ok-rows.ensures c.in_ok-fill_columns.ensures.ok) is
