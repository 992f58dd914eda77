use Rattle.std.proofs.lemmas.Cmp.{on_total, then_total, nat_cmp_total, int_cmp_total, nat_list_cmp_total}
use Rattle.mx_schema.specs.Cells.{rank, number, bytes}
use Rattle.mx_schema.proofs.cell.cells_are_ordered.Goals as goal

pub returns : goal.returns
returns c = then_total (then_total (on_total rank nat_cmp_total) (on_total number int_cmp_total)) (on_total bytes nat_list_cmp_total)
