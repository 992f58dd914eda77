use Rattle.std.proofs.Common.{rules}
use Rattle.std.proofs.lemmas.Result.{err_from_is_err_and}
use Rattle.mx_parquet.proofs.PagesSay.{no_levels, bad_levels, good_levels}
use Rattle.mx_parquet.proofs.page_reading.levels_of.Goals as goal

pub returns-in_err-body : goal.returns-in_err-body
returns-in_err-body c =
    let p = err_from_is_err_and c.from_residual.result c.from_residual.ensures.1 in
    rw (p.1, p.2) (no_levels _ c.args.nullable c.args.count c.args.bytes.now c.if-nullable.true c.in_err-body.ensures)

pub returns-in_err-levels_in : goal.returns-in_err-levels_in
returns-in_err-levels_in c =
    let p = err_from_is_err_and c.from_residual-in_err-levels_in.result c.from_residual-in_err-levels_in.ensures.1 in
    rw (p.1, p.2) (bad_levels _ c.args.nullable c.args.count c.args.bytes.now _ _ c.if-nullable.true c.in_ok-body.ensures c.in_err-levels_in.ensures)

pub returns-in_ok-levels_in : goal.returns-in_ok-levels_in
returns-in_ok-levels_in c = good_levels c.args.nullable c.args.count c.args.bytes.now _ _ _ c.if-nullable.true (search rules) c.in_ok-body.ensures c.in_ok-levels_in.ensures
