use Rattle.std.proofs.Common.{◌≡◌, ◌∙◌, ◌+◌, ap, arith, length, pos, ℕ, refl}
use Rattle.mx_avro.specs.Encoding.{long_encoding}
use Rattle.mx_parquet.specs.Columns.{filled_columns}
use Rattle.mx_parquet.specs.Encoding.{chunks}
use Rattle.mx_parquet.proofs.Numbers.{long-cap}
use Rattle.mx_parquet.proofs.Files.{file-length}
use Rattle.mx_parquet.proofs.file_size.file_len.Goals as goal

pub returns : goal.returns
returns c =
    let schema = c.args.schema.now in
    let rows = c.args.rows.now in
    let size = length (chunks (filled_columns schema rows)) in
    let number : length (long_encoding (pos c.sizes_of-sizes.result.chunks)) ≡ length (long_encoding (pos size)) =
    ap (λ (k : ℕ). length (long_encoding (pos k))) c.sizes_of-sizes.ensures.chunks ∙ long-cap size in
    omega (
      arith,
      file-length schema rows (5 + length schema) refl,
      number,
      c.sizes_of-sizes.ensures.chunks,
      c.sizes_of-sizes.ensures.elements,
      c.sizes_of-sizes.ensures.structs,
      c.head_len.ensures.value,
      c.head_len-2.ensures.value,
      c.root_len.ensures.value,
      c.long_len.ensures.value,
      c.long_len-2.ensures.value,
      c.saturating_add.ensures,
      c.saturating_add-2.ensures,
      c.saturating_add-3.ensures,
    )
