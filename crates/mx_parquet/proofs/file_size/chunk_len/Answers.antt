use Rattle.std.proofs.Common.{◌≡◌, ◌∙◌, ap, arith, length, sym, ℕ}
use Rattle.mx_parquet.specs.Pages.{page}
use Rattle.mx_parquet.specs.Shape.{struct_bytes, page_header}
use Rattle.mx_parquet.specs.Seen.{filled}
use Rattle.mx_parquet.proofs.Structs.{header-cap}
use Rattle.mx_parquet.proofs.Files.{chunk-length, cells-length}
use Rattle.mx_parquet.proofs.file_size.chunk_len.Goals as goal

pub returns : goal.returns
returns c =
    let rows = c.args.rows.now in
    let f = filled c.args.column c.args.place rows in
    let len = length (page f) in
    let head : length (struct_bytes (page_header (length rows) c.page_len-page.result)) ≡ length (struct_bytes (page_header (length f.cells) len)) =
    ap (λ (k : ℕ). length (struct_bytes (page_header (length rows) k))) c.page_len-page.ensures ∙ header-cap (length rows) len
    ∙ ap (λ (k : ℕ). length (struct_bytes (page_header k len))) (sym (cells-length c.args.place rows)) in
    omega (arith, head, chunk-length f, c.page_len-page.ensures, c.header_len.ensures.value, c.saturating_add.ensures)
