use Rattle.std.proofs.Common.{◌≡◌, ◌∙◌, ◌+◌, ◌-◌, ◌^◌, ap, arith, flat_map, length, List, min, take}
use Rattle.mx_schema.specs.declared.column.Column.{Column}
use Rattle.mx_thrift.specs.declared.value.Value.{Value}
use Rattle.mx_thrift.specs.Encoding.{written_value}
use Rattle.mx_parquet.specs.Columns.{FilledColumn, cells_at, columns_of, filled_columns}
use Rattle.mx_parquet.specs.Encoding.{chunk, chunks, chunk_structs}
use Rattle.mx_parquet.specs.Shape.{struct_bytes, element, column_chunk}
use Rattle.mx_parquet.specs.Seen.{seen, filled}
use Rattle.mx_parquet.proofs.Files.{take_next, filled_more, chunks-length, elements-length, said_more, structs-length, said-length, cells-length, all_columns, all_filled}
use Rattle.mx_parquet.proofs.file_size.sizes_of.Goals as goal

pub loop-place-preserved : goal.loop-place-preserved
loop-place-preserved c =
    let l = c.loop-place in
    let rows = c.args.rows.now in
    let schema = c.args.schema.now in
    let column = seen c.column_at-column.result in
    let all = filled_columns schema rows in
    let f = filled c.column_at-column.result l.place rows in
    let more = filled_more schema rows l.place column c.column_at-column.ensures in
    let at = 4 + length (chunks (take l.place all)) in
    let offset : c.saturating_add-offset.result ≡ min at (2 ^ 64 - 1) = omega (arith, l.invariant.chunks, c.saturating_add-offset.ensures) in
    let said : length (struct_bytes (column_chunk column (length rows) c.chunk_len-size.result c.saturating_add-offset.result)) ≡ length (struct_bytes (column_chunk column (length (cells_at l.place rows)) (length (chunk f)) at)) =
    said-length column (length (cells_at l.place rows)) (length rows) c.chunk_len-size.result (length (chunk f)) c.saturating_add-offset.result at (cells-length l.place rows) c.chunk_len-size.ensures offset in
    let structs = structs-length (chunk_structs 4 (take l.place all)) (chunk_structs 4 (take (l.place + 1) all)) (column_chunk column (length (cells_at l.place rows)) (length (chunk f)) at) (said_more 4 (take l.place all) (take (l.place + 1) all) f more) in
    record {
      chunks = omega (arith, chunks-length (take l.place all) (take (l.place + 1) all) f more, l.invariant.chunks, c.chunk_len-size.ensures, c.saturating_add.ensures);
      elements =
          omega (
            arith,
            elements-length (take l.place (columns_of schema)) (take (l.place + 1) (columns_of schema)) column (take_next (columns_of schema) l.place column c.column_at-column.ensures),
            l.invariant.elements,
            c.element_len.ensures,
            c.saturating_add-in-loop-place.ensures,
          );
      structs = omega (arith, structs, said, l.invariant.structs, c.column_chunk_len-fields.ensures, c.saturating_add-in-loop-place-2.ensures);
    }

pub returns-clause-chunks : goal.returns-clause-chunks
returns-clause-chunks c =
    let l = c.loop-place in
    l.invariant.chunks ∙ ap (λ (fs : List FilledColumn). min (length (chunks fs)) (2 ^ 64 - 1)) (all_filled c.args.schema.now c.args.rows.now l.place c.loop-place-test.false)

pub returns-clause-elements : goal.returns-clause-elements
returns-clause-elements c =
    let l = c.loop-place in
    l.invariant.elements
    ∙ ap (λ (cs : List Column). min (length (flat_map (λ (c : Column). struct_bytes (element c)) cs)) (2 ^ 64 - 1)) (all_columns c.args.schema.now l.place c.loop-place-test.false)

pub returns-clause-structs : goal.returns-clause-structs
returns-clause-structs c =
    let l = c.loop-place in
    l.invariant.structs
    ∙ ap (λ (fs : List FilledColumn). min (length (flat_map (λ (v : Value). (written_value v).1) (chunk_structs 4 fs))) (2 ^ 64 - 1)) (all_filled c.args.schema.now c.args.rows.now l.place c.loop-place-test.false)
