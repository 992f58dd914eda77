use Rattle.std.proofs.Common.{◌≡◌, ◌++◌, length, take}
use Rattle.mx_parquet.specs.Columns.{filled_columns}
use Rattle.mx_parquet.specs.Encoding.{chunks, chunk_structs}
use Rattle.mx_parquet.proofs.writing.put_chunks.Given as goal

abbrev pub invariant-loop-place : goal.invariant-loop-place
invariant-loop-place l = record {
  bytes : l.out.items ≡ l.fn.out.items ++ chunks (take l.place (filled_columns l.schema l.rows));
  structs : l.structs ≡ chunk_structs (length l.fn.out.items) (take l.place (filled_columns l.schema l.rows));
}
