use Rattle.std.proofs.Common.{◌≡◌, ◌+◌, ◌∙◌, ap, arith, length, Bool}
use Rattle.mx_parquet.specs.Columns.{cells_at}
use Rattle.mx_parquet.specs.Pages.{levels, level_bytes}
use Rattle.mx_parquet.proofs.Pages.{level_bytes-length}
use Rattle.mx_parquet.proofs.page_size.level_part_len.Goals as goal

pub returns-then-nullable : goal.returns-then-nullable
returns-then-nullable c =
    let cells = cells_at c.args.place c.args.rows.now in
    let len : length (level_bytes c.args.nullable cells) ≡ 4 + length (levels cells) = ap (λ (b : Bool). length (level_bytes b cells)) c.if-nullable.true ∙ level_bytes-length cells in
    omega (arith, len, c.levels_len.ensures, c.saturating_add.ensures)
