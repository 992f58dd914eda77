use Rattle.std.proofs.Common.{ℕ, drop}
use Rattle.std.proofs.lemmas.Result.{err_from_is_err_and}
use Rattle.mx_parquet.specs.declared.header.PageSize.{PageSize}
use Rattle.mx_parquet.specs.declared.chunk.PageCells.{PageCells}
use Rattle.mx_parquet.proofs.ChunkSays.{no_page_at, page_read_at}
use Rattle.mx_parquet.proofs.chunk.page_at.Goals as goal

pub returns-in_err-size-clause-found : goal.returns-in_err-size-clause-found
returns-in_err-size-clause-found c =
    let p = err_from_is_err_and c.from_residual.result c.from_residual.ensures.1 in
    rw (p.1, p.2) (no_page_at {X = PageSize × ℕ} {Y = PageCells} (λ x. (x.0, drop x.1 c.args.bytes.now)) (λ page. (page.cells, drop page.end c.args.bytes.now)) c.args.column.now c.args.most _ _ c.in_err-size.ensures.found)

pub returns-clause-found : goal.returns-clause-found
returns-clause-found c = page_read_at _ c.args.column.now c.args.most _ _ _ _ c.in_ok-size.ensures.found c.body_at.ensures.found
