use Rattle.std.proofs.Common.{arith, ap, length}
use Rattle.mx_schema.specs.declared.cell.Cell.{Cell}
use Rattle.mx_parquet.specs.declared.row.FullRow.{FullRow}
use Rattle.mx_parquet.specs.Columns.{cell_at}
use Rattle.mx_parquet.specs.Pages.{plain}
use Rattle.mx_parquet.proofs.Cells.{flat_map_within}
use Rattle.mx_parquet.proofs.page.put_cells.Goals as goal

pub put_cell-requires : goal.put_cell-requires
put_cell-requires c =
    let place = c.args.place in
    omega (
      arith,
      ap (λ (x : Cell). length (plain x)) c.cell_at.ensures,
      ap (λ (r : FullRow). length (plain (cell_at place r))) c.row-item.is,
      flat_map_within plain (cell_at place) c.args.rows.now c.loop-row.row-index c.row-item.result c.loop-row-test.true,
      c.requires,
    )
