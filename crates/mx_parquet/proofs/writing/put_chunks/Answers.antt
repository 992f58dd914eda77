use Rattle.std.proofs.Common.{◌∙◌, ◌+◌, ap, arith, length, sym, take, List, ◌++◌, length-append}
use Rattle.mx_parquet.specs.Columns.{FilledColumn, cells_at, filled_columns}
use Rattle.mx_parquet.specs.Encoding.{chunk, chunks, chunk_structs}
use Rattle.mx_parquet.specs.Seen.{seen, filled}
use Rattle.mx_parquet.proofs.Files.{filled_more, chunks-length, chunks-within, chunks_put, structs_put, said_is, cells-length, all_filled}
use Rattle.mx_parquet.proofs.writing.put_chunks.Goals as goal

pub put_chunk-requires-clause-room : goal.put_chunk-requires-clause-room
put_chunk-requires-clause-room c =
    let l = c.loop-place in
    let all = filled_columns c.args.schema.now c.args.rows.now in
    let more = filled_more c.args.schema.now c.args.rows.now l.place (seen c.column_at-column.result) c.column_at-column.ensures in
    omega (arith, chunks-length (take l.place all) (take (l.place + 1) all) (filled c.column_at-column.result l.place c.args.rows.now) more, chunks-within all (l.place + 1), c.requires.room)

pub loop-place-preserved : goal.loop-place-preserved
loop-place-preserved c =
    let l = c.loop-place in
    let rows = c.args.rows.now in
    let all = filled_columns c.args.schema.now rows in
    let column = seen c.column_at-column.result in
    let f = filled c.column_at-column.result l.place rows in
    let old = c.args.out.now.items in
    let more = filled_more c.args.schema.now rows l.place column c.column_at-column.ensures in
    let before = ap length l.invariant.bytes ∙ length-append old (chunks (take l.place all)) in
    let after = ap length c.in_ok-put_chunk.ensures ∙ length-append l.out.items (chunk f) in
    record {
      bytes = chunks_put (take l.place all) (take (l.place + 1) all) f old l.out.items c.put_chunk.new.out.items more l.invariant.bytes c.in_ok-put_chunk.ensures;
      structs =
          structs_put (length old) (take l.place all) (take (l.place + 1) all) f l.structs c.push.new.self c.in_ok-fields.fields more l.invariant.structs c.in_ok-push.ensures.ok
          (said_is column (length rows) (length (cells_at l.place rows)) _ (length (chunk f)) _ (length old + length (chunks (take l.place all))) c.in_ok-fields.fields c.in_ok-fields.ensures (sym (cells-length l.place rows))
          (omega (arith, after, c.len_of.ensures, c.len_of-offset.ensures)) (omega (arith, before, c.len_of-offset.ensures)));
    }

pub returns-clause-bytes : goal.returns-clause-bytes
returns-clause-bytes c =
    let l = c.loop-place in
    l.invariant.bytes ∙ ap (λ (fs : List FilledColumn). c.args.out.now.items ++ chunks fs) (all_filled c.args.schema.now c.args.rows.now l.place c.loop-place-test.false)

pub returns-clause-structs : goal.returns-clause-structs
returns-clause-structs c =
    let l = c.loop-place in
    l.invariant.structs ∙ ap (λ (fs : List FilledColumn). chunk_structs (length c.args.out.now.items) fs) (all_filled c.args.schema.now c.args.rows.now l.place c.loop-place-test.false)
