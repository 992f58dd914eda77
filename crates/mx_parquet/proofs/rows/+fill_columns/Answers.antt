use Rattle.std.proofs.Common.{List, ◌≡◌, rules, length, ap, arith}
use Rattle.std.proofs.lemmas.Result.{err_from_is_err_and}
use Rattle.mx_schema.specs.declared.cell.Cell.{Cell}
use Rattle.mx_parquet.proofs.FaultsSay.{chunk_without_column, column_without_chunk, column_fault, others_fault}
use Rattle.std.proofs.lemmas.Result.{on_ok_weaker}
use Rattle.mx_parquet.proofs.RowsSay.{all_filled, columns_filled, other_columns_refuse, mid_filled}
use Rattle.mx_parquet.proofs.rows.+fill_columns.Goals as goal

pub returns-in_default-clause-ok : goal.returns-in_default-clause-ok
returns-in_default-clause-ok t c =
    on_ok_weaker c.nothing_left.result (all_filled c.args.file.now c.args.place c.args.columns.now c.args.chunks.now c.args.rows.now.items c.in_default.ensures.cases c.requires.as_long) c.nothing_left.ensures.ok

pub fill_columns-requires : goal.fill_columns-requires
fill_columns-requires t c =
    let before = c.args.rows.now in
    let many : c.len.result ≡ length before.items = omega (arith, c.len.ensures, before.ok.0) in
    let mid = mid_filled c.args.place c.len.result _ _ c.in_ok-cells.cells before.items c.fill.new.rows.items many c.in_ok-cells.ensures.found.0 c.requires.as_long c.in_ok-fill.ensures in
    (search rules, (c.requires.short, (omega (arith, c.requires.room, ap length c.in-Some.ensures.cases.0), mid.as_long)))

pub returns-clause-ok : goal.returns-clause-ok
returns-clause-ok t c =
    let before = c.args.rows.now in
    let many : c.len.result ≡ length before.items = omega (arith, c.len.ensures, before.ok.0) in
    on_ok_weaker c.fill_columns.result
    (columns_filled c.args.file.now c.args.place c.len.result _ _ _ _ _ _ c.in_ok-cells.cells before.items c.fill.new.rows.items c.fill_columns.new.rows.items many c.in-Some.ensures.cases.0 c.in-Some-split_first.ensures.cases.0 c.in_ok-cells.ensures.found c.requires.as_long c.in_ok-fill.ensures)
    c.fill_columns.ensures.ok

pub returns-clause-err : goal.returns-clause-err
returns-clause-err t c =
    let before = c.args.rows.now in
    let many : c.len.result ≡ length before.items = omega (arith, c.len.ensures, before.ok.0) in
    let mid = mid_filled c.args.place c.len.result _ _ c.in_ok-cells.cells before.items c.fill.new.rows.items many c.in_ok-cells.ensures.found.0 c.requires.as_long c.in_ok-fill.ensures in
    other_columns_refuse c.args.file.now c.args.place _ _ _ _ _ _ _ _ c.fill_columns.result mid.as_many c.in-Some.ensures.cases.0 c.in-Some-split_first.ensures.cases.0 c.fill_columns.ensures.err

pub returns-in_default-clause-fault : goal.returns-in_default-clause-fault
returns-in_default-clause-fault t c =
    chunk_without_column c.args.file.now (length c.args.rows.now.items) c.args.place c.args.columns.now c.args.chunks.now c.nothing_left.result c.in_default.ensures.cases c.nothing_left.ensures.err c.nothing_left.ensures.fault

pub returns-in_default-split_first-clause-fault : goal.returns-in_default-split_first-clause-fault
returns-in_default-split_first-clause-fault t c =
    column_without_chunk c.args.file.now (length c.args.rows.now.items) c.args.place _ _ c.args.columns.now c.args.chunks.now c.in-Some.ensures.cases.0 c.in_default-split_first.ensures.cases

pub returns-in_err-cells-clause-fault : goal.returns-in_err-cells-clause-fault
returns-in_err-cells-clause-fault t c =
    let p = err_from_is_err_and c.from_residual.result c.from_residual.ensures.1 in
    let before = c.args.rows.now in
    let many : c.len.result ≡ length before.items = omega (arith, c.len.ensures, before.ok.0) in
    rw (p.1, p.2) (column_fault (List Cell) (Unit {0}) c.args.file.now c.len.result (length before.items) c.args.place _ _ c.args.columns.now _ _ c.args.chunks.now _ many c.in-Some.ensures.cases.0 c.in-Some-split_first.ensures.cases.0 c.in_err-cells.ensures.fault)

pub returns-clause-fault : goal.returns-clause-fault
returns-clause-fault t c =
    let before = c.args.rows.now in
    let many : c.len.result ≡ length before.items = omega (arith, c.len.ensures, before.ok.0) in
    let mid = mid_filled c.args.place c.len.result _ _ c.in_ok-cells.cells before.items c.fill.new.rows.items many c.in_ok-cells.ensures.found.0 c.requires.as_long c.in_ok-fill.ensures in
    others_fault c.args.file.now c.len.result (length before.items) _ c.args.place _ _ c.args.columns.now _ _ c.args.chunks.now c.in_ok-cells.cells c.fill_columns.result many mid.as_many c.in-Some.ensures.cases.0 c.in-Some-split_first.ensures.cases.0 c.in_ok-cells.ensures.found.0 c.fill_columns.ensures.fault
