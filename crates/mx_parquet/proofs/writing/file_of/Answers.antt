use Rattle.std.proofs.Common.{◌≡◌, ◌∙◌, ◌++◌, ap, arith, length, length-append, List, ℕ}
use Rattle.mx_parquet.specs.Columns.{filled_columns}
use Rattle.mx_parquet.specs.Encoding.{magic, chunks, chunk_structs}
use Rattle.mx_parquet.proofs.Files.{magic-length, encoding-length, assembled}
use Rattle.mx_parquet.proofs.writing.file_of.Goals as goal

pub put_chunks-requires-clause-room : goal.put_chunks-requires-clause-room
put_chunks-requires-clause-room c =
    let start : c.put_magic.new.out.items ≡ magic = c.in_ok-put_magic.ensures ∙ ap (λ (x : List ℕ). x ++ magic) c.in_ok-out.ensures.items in
    omega (arith, ap length start, magic-length, encoding-length c.args.schema.now c.args.rows.now, c.requires.room)

pub put_footer-requires-clause-room : goal.put_footer-requires-clause-room
put_footer-requires-clause-room c =
    let start : c.put_magic.new.out.items ≡ magic = c.in_ok-put_magic.ensures ∙ ap (λ (x : List ℕ). x ++ magic) c.in_ok-out.ensures.items in
    let all = chunks (filled_columns c.args.schema.now c.args.rows.now) in
    let len = ap length c.in_ok-structs.ensures.bytes ∙ length-append c.put_magic.new.out.items all in
    omega (arith, len, ap length start, magic-length, encoding-length c.args.schema.now c.args.rows.now, c.requires.room)

pub put_footer-requires-clause-structs : goal.put_footer-requires-clause-structs
put_footer-requires-clause-structs c =
    let start : c.put_magic.new.out.items ≡ magic = c.in_ok-put_magic.ensures ∙ ap (λ (x : List ℕ). x ++ magic) c.in_ok-out.ensures.items in
    c.in_ok-structs.ensures.structs ∙ ap (λ (n : ℕ). chunk_structs n (filled_columns c.args.schema.now c.args.rows.now)) (ap length start ∙ magic-length)

pub returns : goal.returns
returns c =
    let start : c.put_magic.new.out.items ≡ magic = c.in_ok-put_magic.ensures ∙ ap (λ (x : List ℕ). x ++ magic) c.in_ok-out.ensures.items in
    let all = chunks (filled_columns c.args.schema.now c.args.rows.now) in
    assembled c.args.schema.now c.args.rows.now c.put_chunks.new.out.items c.put_footer.new.out.items (c.in_ok-structs.ensures.bytes ∙ ap (λ (x : List ℕ). x ++ all) start) c.in_ok-put_footer.ensures
