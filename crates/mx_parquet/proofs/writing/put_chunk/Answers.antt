use Rattle.std.proofs.Common.{◌<◌, ◌^◌, arith, length, sym, subst}
use Rattle.mx_parquet.specs.Seen.{CanWrite, filled}
use Rattle.mx_parquet.proofs.Files.{chunk-length}
use Rattle.mx_parquet.proofs.Writable.{can_header}
use Rattle.mx_parquet.proofs.writing.put_chunk.Goals as goal

pub bytes_of-requires : goal.bytes_of-requires
bytes_of-requires c =
    let f = filled c.args.column c.args.place c.args.rows.now in
    let small : c.page_len-size.result < 2 ^ 31 = omega (arith, chunk-length f, c.page_len-size.ensures, c.requires.room) in
    subst CanWrite (sym c.in_ok-header.ensures) (can_header (length c.args.rows.now) c.page_len-size.result (omega (arith, c.requires.count)) small)
