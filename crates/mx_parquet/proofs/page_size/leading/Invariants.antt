use Rattle.std.proofs.Common.{◌≡◌, ◌+◌, drop}
use Rattle.std.specs.List.{prefix_len}
use Rattle.std.specs.Bool.{beq}
use Rattle.mx_parquet.specs.Columns.{cell_at}
use Rattle.mx_parquet.specs.Pages.{is_present}
use Rattle.mx_parquet.proofs.page_size.leading.Given as goal

abbrev pub invariant-loop-index : goal.invariant-loop-index
invariant-loop-index l =
    l.index + prefix_len (λ row. beq l.present (is_present (cell_at l.place row))) (drop l.index l.rows)
    ≡ prefix_len (λ row. beq l.present (is_present (cell_at l.place row))) l.rows
