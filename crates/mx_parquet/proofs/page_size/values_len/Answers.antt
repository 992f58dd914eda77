use Rattle.std.proofs.Common.{◌≡◌, ◌∙◌, length, flat_map, arith, ap, sym, ℕ}
use Rattle.std.specs.Int.{div_ceil}
use Rattle.mx_schema.specs.declared.column.ColumnKind.{ColumnKind}
use Rattle.mx_parquet.specs.Columns.{cells_at}
use Rattle.mx_parquet.specs.Pages.{truths, value_bytes}
use Rattle.mx_parquet.proofs.Pages.{bytes_of_bits-length}
use Rattle.mx_parquet.proofs.page_size.values_len.Goals as goal

pub returns-in-Boolean : goal.returns-in-Boolean
returns-in-Boolean c =
    let cells = cells_at c.args.place c.args.rows.now in
    let bits = flat_map truths cells in
    let count = bytes_of_bits-length (div_ceil (length bits) 8) bits in
    let len : c.div_ceil.result ≡ length (value_bytes c.args.kind cells) =
    c.div_ceil.ensures ∙ ap (λ (n : ℕ). div_ceil n 8) c.truth_count.ensures ∙ sym count ∙ sym (ap (λ (k : ColumnKind). length (value_bytes k cells)) c.in-Boolean.is) in
    omega (arith, len)
