use Rattle.std.proofs.Common.{Vec, Global, List, rules}
use Rattle.std.proofs.lemmas.Result.{err_from_is_err_and}
use Rattle.mx_schema.specs.declared.column.Column.{Column}
use Rattle.mx_parquet.specs.declared.row.FullRow.{FullRow}
use Rattle.mx_parquet.proofs.WholeSays.{no_schema, no_rows, file_short, file_read, five_columns, only_table}
use Rattle.mx_parquet.proofs.reading.contents_of.Goals as goal

pub returns-in_err-schema-clause-err : goal.returns-in_err-schema-clause-err
returns-in_err-schema-clause-err c =
    let p = err_from_is_err_and c.from_residual.result c.from_residual.ensures.1 in
    rw (p.1, p.2) (no_schema (List Column) c.args.file.now c.args.layout.now _ _ c.requires c.as_slice-columns.ensures c.in_err-schema.ensures.err)

pub rows_of-requires : goal.rows_of-requires
rows_of-requires c = record {
  short = file_short c.args.file.now c.args.layout.now (search rules) c.requires;
  hudi = five_columns _ _ c.in_ok-schema.ensures.ok.1;
}

pub returns-in_err-rows-clause-err : goal.returns-in_err-rows-clause-err
returns-in_err-rows-clause-err c =
    let p = err_from_is_err_and c.from_residual-in_err-rows.result c.from_residual-in_err-rows.ensures.1 in
    rw (p.1, p.2) (no_rows (Vec FullRow Global) c.args.file.now c.args.layout.now _ _ _ c.requires c.as_slice-columns.ensures c.as_slice.ensures c.in_err-rows.ensures.err)

pub returns-clause-ok : goal.returns-clause-ok
returns-clause-ok c =
    let begins = c.in_ok-schema.ensures.ok in
    file_read c.args.file.now c.args.layout.now _ _ _ _ (search rules) c.requires c.as_slice-columns.ensures c.as_slice.ensures begins.0 begins.1 c.in_ok-rows.ensures.ok

pub returns-clause-only : goal.returns-clause-only
returns-clause-only c =
    only_table c.args.file.now c.args.layout.now _ _ _ _ c.requires c.as_slice-columns.ensures c.as_slice.ensures c.in_ok-schema.ensures.ok.1 c.in_ok-rows.ensures.only
