use Rattle.std.proofs.Common.{arith, sym}
use Rattle.std.proofs.lemmas.Bool.Decides.{nat_tests}
use Rattle.std.proofs.lemmas.Result.{err_from_is_err_and}
use Rattle.mx_parquet.specs.declared.error.Failure.TheVariants as failures
use Rattle.mx_parquet.proofs.ChunkTurns.{one_chunk, bad_chunk, no_chunk, further_chunk, all_chunks}
use Rattle.mx_parquet.proofs.groups.chunks_of.Goals as goal

pub returns-in_default-split_first : goal.returns-in_default-split_first
returns-in_default-split_first c = no_chunk c.args.len c.args.row_count _ _ _ _ _ _ c.in-Some.ensures.cases.0 c.in_default-split_first.ensures.cases c.loop-column.invariant

pub returns-in_err-chunk_at : goal.returns-in_err-chunk_at
returns-in_err-chunk_at c =
    let p = err_from_is_err_and c.from_residual.result c.from_residual.ensures.1 in
    rw (p.1, p.2)
    (bad_chunk (failures.Flawed _) c.args.len c.args.row_count _ _ _ _ _ _ _ _ c.in-Some.ensures.cases.0 c.in-Some-split_first.ensures.cases.0 (sym c.in_err-chunk_at.ensures) c.loop-column.invariant)

pub loop-column-preserved : goal.loop-column-preserved
loop-column-preserved c = one_chunk c.args.len c.args.row_count _ _ _ _ _ _ _ _ _ _ c.in-Some.ensures.cases.0 c.in-Some-split_first.ensures.cases.0 c.in_ok-push.ensures.ok (sym c.in_ok-chunk_at.ensures) c.loop-column.invariant

pub returns-then-not-is_empty : goal.returns-then-not-is_empty
returns-then-not-is_empty c = further_chunk c.args.len c.args.row_count _ _ _ _ c.in_default.ensures.cases (λ z. grind (arith, nat_tests)) c.loop-column.invariant

pub returns : goal.returns
returns c = all_chunks c.args.len c.args.row_count _ _ _ _ c.in_default.ensures.cases (grind (arith, nat_tests)) c.loop-column.invariant
