use Rattle.std.proofs.Common.{List, Bool, subst, rules}
use Rattle.std.proofs.lemmas.Result.{err_from_is_err_and}
use Rattle.mx_parquet.specs.Reading.{Answers}
use Rattle.mx_parquet.specs.Values.{cells_in}
use Rattle.mx_parquet.proofs.PagesSay.{no_page, page_read, rest_short, rest_fits}
use Rattle.mx_parquet.proofs.page_reading.page_of.Goals as goal

pub returns-in_err-levels : goal.returns-in_err-levels
returns-in_err-levels c =
    let p = err_from_is_err_and c.from_residual.result c.from_residual.ensures.1 in
    rw (p.1, p.2) (no_page _ c.args.column.now c.args.count c.args.bytes.now c.in_err-levels.ensures)

pub returns : goal.returns
returns c =
    let one = c.in_ok-levels.ensures in
    let answers = subst (λ (ls : List Bool). Answers c.cells_of.result (cells_in c.args.column.now.kind ls c.in_ok-levels.rest.now)) c.as_slice.ensures c.cells_of.ensures in
    let short = rest_short c.args.column.now.nullable c.args.count c.args.bytes.now _ _ one.0 c.requires in
    let fits = rest_fits c.args.column.now.nullable c.args.count c.args.bytes.now _ _ one.0 (search rules) in
    page_read c.args.column.now c.args.count c.args.bytes.now _ _ _ short fits one.0 one.1 answers
