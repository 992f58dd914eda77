use Rattle.std.proofs.Common.{arith}
use Rattle.std.proofs.lemmas.Bool.Decides.{nat_tests}
use Rattle.std.proofs.lemmas.Result.{err_from_is_err_and}
use Rattle.mx_parquet.proofs.ValueTurns.{one_cell, no_cell, bytes_left, all_cells}
use Rattle.mx_parquet.proofs.values.plain_of.Goals as goal

pub returns-in_err-cell : goal.returns-in_err-cell
returns-in_err-cell c =
    let p = err_from_is_err_and c.from_residual.result c.from_residual.ensures.1 in
    rw (p.1, p.2) (no_cell _ c.args.kind _ _ _ _ _ _ c.in-Some.ensures.cases.0 c.in_err-cell.ensures c.loop-level.invariant)

pub loop-level-preserved : goal.loop-level-preserved
loop-level-preserved c = one_cell c.args.kind _ _ _ _ _ _ _ _ _ c.in-Some.ensures.cases.0 c.in_ok-push.ensures.ok c.in_ok-cell.ensures c.loop-level.invariant

pub returns-then-not-is_empty : goal.returns-then-not-is_empty
returns-then-not-is_empty c = bytes_left c.args.kind _ _ _ _ c.in_default.ensures.cases (λ z. grind (arith, nat_tests)) c.loop-level.invariant

pub returns : goal.returns
returns c = all_cells c.args.kind _ _ _ _ c.in_default.ensures.cases (grind (arith, nat_tests)) c.loop-level.invariant
