use Rattle.std.proofs.Common.{◌≡◌, length, arith}
use Rattle.mx_parquet.proofs.CellsSay.{fill_step}
use Rattle.mx_parquet.proofs.rows.fill.Goals as goal

pub loop-cell-preserved : goal.loop-cell-preserved
loop-cell-preserved c =
    let l = c.loop-cell in
    let at : c.len.result ≡ length c.pop.new.self.items = omega (arith, c.len.ensures, c.pop.new.self.ok.0) in
    let p = fill_step c.args.place c.len.result c.args.cells c.pop.new.self.items l.cells.items c.in-Some.cell c.args.rows.now.items l.rows.items c.index_mut.result.now c.put_cell.new.row
    c.in-Some.ensures.items l.invariant.left l.invariant.so_far at c.requires c.index_mut.ensures.value c.in_ok-put_cell.ensures in
    record { left = p.0; so_far = p.1 }
