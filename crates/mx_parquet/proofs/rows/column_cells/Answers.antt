use Rattle.std.proofs.Common.{Bool, List, ◌≡◌, ◌∙◌, ℕ, false, true, IsTrue, min, ap, length}
use Rattle.std.proofs.lemmas.Result.{err_from_is_err_and}
use Rattle.mx_schema.specs.declared.cell.Cell.{Cell}
use Rattle.mx_parquet.proofs.FaultsSay.{front_is, pages_fault, cell_fault}
use Rattle.mx_parquet.proofs.RowsSay.{chunk_front, may_not}
use Rattle.mx_parquet.proofs.rows.column_cells.Goals as goal

not_true : (b : Bool) → b ≡ false → IsTrue b → ⊥
not_true true e t = absurd cc
not_true false e t = absurd cc

pub returns-then-not-may_stand-clause-found : goal.returns-then-not-may_stand-clause-found
returns-then-not-may_stand-clause-found c =
    let end_is = c.min-end.ensures ∙ ap (λ (n : ℕ). min n (length c.args.file.now)) c.saturating_add.ensures in
    may_not c.args.column.now c.args.place c.args.count _ _ c.in_ok-cells.cells c.as_slice.result.now (chunk_front c.args.file.now c.args.chunk _ _ c.requires end_is c.split_at.ensures.front)
    c.in_ok-cells.ensures.found.1 c.as_slice.ensures (λ may. not_true _ c.if-not-may_stand.true (c.may_stand.ensures.1 may))

pub returns-then-not-may_stand-clause-fault : goal.returns-then-not-may_stand-clause-fault
returns-then-not-may_stand-clause-fault c =
    let end_is = c.min-end.ensures ∙ ap (λ (n : ℕ). min n (length c.args.file.now)) c.saturating_add.ensures in
    cell_fault c.args.file.now c.args.count c.args.place c.args.column.now c.args.chunk _ c.in_ok-cells.cells c.as_slice.result.now (chunk_front c.args.file.now c.args.chunk _ _ c.requires end_is c.split_at.ensures.front)
    c.in_ok-cells.ensures.found.0 c.as_slice.ensures (λ may. not_true _ c.if-not-may_stand.true (c.may_stand.ensures.1 may))

pub returns-in_err-cells-clause-fault : goal.returns-in_err-cells-clause-fault
returns-in_err-cells-clause-fault c =
    let p = err_from_is_err_and c.from_residual.result c.from_residual.ensures.1 in
    let end_is = c.min-end.ensures ∙ ap (λ (n : ℕ). min n (length c.args.file.now)) c.saturating_add.ensures in
    rw (p.1, p.2) (pages_fault (List Cell) (List Cell) c.args.file.now c.args.count c.args.place c.args.column.now c.args.chunk _ _ (front_is c.args.file.now c.args.chunk _ _ c.requires end_is c.split_at.ensures.front) c.in_err-cells.ensures.fault)
