use Rattle.std.proofs.lemmas.Result.{err_from_is_err_and}
use Rattle.mx_parquet.proofs.WholeSays.{no_layout}
use Rattle.mx_parquet.proofs.reading.read_rows.Goals as goal

pub returns-in_err-layout-clause-err : goal.returns-in_err-layout-clause-err
returns-in_err-layout-clause-err c =
    let p = err_from_is_err_and c.from_residual.result c.from_residual.ensures.1 in
    rw (p.1, p.2) (no_layout c.args.file.now _ c.in_err-layout.ensures)
