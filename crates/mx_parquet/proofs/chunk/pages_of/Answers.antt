use Rattle.std.proofs.Common.{length-append, ◌≡◌, ◌∙◌, ◌++◌, ◌-◌, ℕ, List, Err, Ok, drop, length, ap, subst, arith}
use Rattle.std.proofs.lemmas.Result.{err_from_is_err_and}
use Rattle.mx_schema.specs.declared.cell.Cell.{Cell}
use Rattle.mx_parquet.specs.declared.chunk.PageCells.{PageCells}
use Rattle.mx_parquet.specs.Chunks.{ReadsAt, IsPageIn, fitted_front}
use Rattle.mx_parquet.specs.Faults.{TellsFault, IsPageFault, header_at}
use Rattle.mx_parquet.proofs.FaultsSay.{page_more, page_fault, count_fault}
use Rattle.mx_parquet.proofs.ChunkSays.{no_further, one_page_more, other_count, all_pages}
use Rattle.mx_parquet.proofs.chunk.pages_of.Goals as goal

pub returns-in_err-page-clause-found : goal.returns-in_err-page-clause-found
returns-in_err-page-clause-found c =
    let p = err_from_is_err_and c.from_residual.result c.from_residual.ensures.1 in
    let l = c.loop-at in
    let len : c.len.result ≡ length l.cells.items = omega (arith, c.len.ensures, l.cells.ok.0) in
    let view : PageCells → List Cell × List ℕ = λ page. (page.cells, drop page.end c.args.bytes.now) in
    let none = subst (λ (n : ℕ). ReadsAt {X = PageCells} {A = List Cell × List ℕ} fitted_front view (IsPageIn c.args.column.now (c.args.row_count - n) (drop l.at c.args.bytes.now)) (Err c.in_err-page.field-0.0)) len c.in_err-page.ensures.found in
    rw (p.1, p.2) (no_further {X = PageCells} view c.args.column.now c.args.row_count _ c.args.bytes.now l.at l.cells.items _ c.loop-at-test.true l.invariant.few l.invariant.so_far none)

pub loop-at-preserved : goal.loop-at-preserved
loop-at-preserved c =
    let l = c.loop-at in
    let len : c.len.result ≡ length l.cells.items = omega (arith, c.len.ensures, l.cells.ok.0) in
    let view : PageCells → List Cell × List ℕ = λ page. (page.cells, drop page.end c.args.bytes.now) in
    let found = subst (λ (n : ℕ). ReadsAt {X = PageCells} {A = List Cell × List ℕ} fitted_front view (IsPageIn c.args.column.now (c.args.row_count - n) (drop l.at c.args.bytes.now)) (Ok c.in_ok-page.page)) len c.in_ok-page.ensures.found in
    let grown = c.in_ok-append.ensures.items ∙ ap (λ (cs : List Cell). l.cells.items ++ cs) c.into_vec.ensures in
    let p = one_page_more c.args.column.now c.args.row_count _ c.args.bytes.now l.at c.in_ok-page.page.end l.cells.items c.in_ok-page.page.cells _ c.loop-at-test.true l.invariant.few l.invariant.so_far found grown in
    let more = page_more c.args.column.now _ (drop c.args.offset c.args.bytes.now) (drop l.at c.args.bytes.now) _ (length l.cells.items) _ c.in_ok-page.page.cells l.invariant.found found.0 (ap length grown ∙ length-append l.cells.items c.in_ok-page.page.cells) in
    record { so_far = p.0; found = more; few = p.1 }

pub returns-then-len-row_count-clause-found : goal.returns-then-len-row_count-clause-found
returns-then-len-row_count-clause-found c =
    let l = c.loop-at in
    other_count c.args.column.now c.args.row_count _ c.args.bytes.now l.at l.cells.items c.loop-at-test.false (λ e. c.if-len-row_count.true (omega (arith, c.len-2.ensures, l.cells.ok.0, e))) l.invariant.so_far

pub returns-clause-found : goal.returns-clause-found
returns-clause-found c =
    let l = c.loop-at in
    all_pages c.args.column.now c.args.row_count _ c.args.bytes.now l.at l.cells.items _ c.loop-at-test.false (omega (arith, c.len-2.ensures, l.cells.ok.0, c.if-len-row_count.false)) l.invariant.so_far c.from_vec.ensures

pub returns-in_err-page-clause-fault : goal.returns-in_err-page-clause-fault
returns-in_err-page-clause-fault c =
    let p = err_from_is_err_and c.from_residual.result c.from_residual.ensures.1 in
    let l = c.loop-at in
    let len : c.len.result ≡ length l.cells.items = omega (arith, c.len.ensures, l.cells.ok.0) in
    let fault = subst (λ (n : ℕ). TellsFault {X = PageCells} (IsPageFault c.args.column.now (c.args.row_count - n) c.args.bytes.now (header_at c.args.bytes.now l.at)) (Err c.in_err-page.field-0.0)) len c.in_err-page.ensures.fault in
    rw (p.1, p.2) (page_fault PageCells (List Cell) c.args.column.now c.args.row_count c.args.bytes.now c.args.offset l.at _ _ l.invariant.found c.loop-at-test.true fault)

pub returns-then-len-row_count-clause-fault : goal.returns-then-len-row_count-clause-fault
returns-then-len-row_count-clause-fault c =
    let l = c.loop-at in
    count_fault c.args.column.now c.args.row_count c.args.bytes.now c.args.offset l.at _ l.invariant.found c.loop-at-test.false (λ e. c.if-len-row_count.true (omega (arith, c.len-2.ensures, l.cells.ok.0, e)))
