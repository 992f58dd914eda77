use Rattle.std.proofs.Common.{◌≡◌, ◌∙◌, ◌-◌, ap, arith, length, length-append, refl}
use Rattle.std.specs.Int.{w32}
use Rattle.mx_parquet.specs.Columns.{filled_columns}
use Rattle.mx_parquet.specs.Encoding.{magic, chunks, footer}
use Rattle.mx_parquet.specs.Pages.{number}
use Rattle.mx_parquet.proofs.Cells.{columns_of-length}
use Rattle.mx_parquet.proofs.Files.{magic-length, chunk_structs-length, filled_columns-length, footer-is, footer_put}
use Rattle.mx_parquet.proofs.Writable.{can_footer}
use Rattle.mx_parquet.proofs.writing.put_footer.Goals as goal

pub overflow_sub-size : goal.overflow_sub-size
overflow_sub-size c =
    omega (arith, c.len_of-size.ensures, ap length c.requires.chunks, length-append magic (chunks (filled_columns c.args.schema.now c.args.rows.now)), magic-length)

pub footer_of-requires-clause-writable : goal.footer_of-requires-clause-writable
footer_of-requires-clause-writable c =
    let schema = c.args.schema.now in
    let rows = c.args.rows.now in
    let all = filled_columns schema rows in
    let len = ap length c.requires.chunks ∙ length-append magic (chunks all) in
    let few = ap length c.requires.structs ∙ chunk_structs-length 4 all ∙ filled_columns-length schema rows ∙ columns_of-length schema in
    can_footer schema rows c.args.structs _ (length rows) c.requires.schema c.requires.structs (omega (arith, few, c.requires.schema.columns.few)) (omega (arith, c.requires.count))
    (omega (arith, len, magic-length, c.requires.room)) (omega (arith, c.len_of-size.ensures, c.requires.room)) (omega (arith, c.requires.count))

pub overflow_cast-len_of : goal.overflow_cast-len_of
overflow_cast-len_of c =
    let schema = c.args.schema.now in
    let rows = c.args.rows.now in
    let size = ap length c.requires.chunks ∙ length-append magic (chunks (filled_columns schema rows)) in
    let foot = footer-is schema rows c.args.structs (c.len_of-size.result - 4) (length rows) c.requires.structs (omega (arith, c.len_of-size.ensures, size, magic-length)) refl in
    omega (arith, c.len_of.ensures, ap length c.in_ok-footer.ensures, ap length foot, c.requires.room)

pub returns : goal.returns
returns c =
    let schema = c.args.schema.now in
    let rows = c.args.rows.now in
    let size = ap length c.requires.chunks ∙ length-append magic (chunks (filled_columns schema rows)) in
    let foot : c.in_ok-footer.footer.items ≡ footer schema rows =
    c.in_ok-footer.ensures ∙ footer-is schema rows c.args.structs (c.len_of-size.result - 4) (length rows) c.requires.structs (omega (arith, c.len_of-size.ensures, size, magic-length)) refl in
    footer_put c.args.out.now.items c.put.new.out.items c.put_u32.new.out.items c.put_magic.new.out.items (footer schema rows) c.deref.result.now _ c.in_ok-put.ensures (c.deref.ensures.value ∙ foot) c.in_ok-put_u32.ensures
    (ap (number w32) (c.len_of.ensures ∙ ap length foot)) c.in_ok-put_magic.ensures
