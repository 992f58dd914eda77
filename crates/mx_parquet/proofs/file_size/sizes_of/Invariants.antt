use Rattle.std.proofs.Common.{◌≡◌, ◌-◌, ◌^◌, length, min, flat_map, take}
use Rattle.mx_thrift.specs.Encoding.{written_value}
use Rattle.mx_parquet.specs.Columns.{columns_of, filled_columns}
use Rattle.mx_parquet.specs.Shape.{struct_bytes, element}
use Rattle.mx_parquet.specs.Encoding.{chunks, chunk_structs}
use Rattle.mx_parquet.proofs.file_size.sizes_of.Given as goal

abbrev pub invariant-loop-place : goal.invariant-loop-place
invariant-loop-place l = record {
  chunks : l.sizes.chunks ≡ min (length (chunks (take l.place (filled_columns l.schema l.rows)))) (2 ^ 64 - 1);
  elements : l.sizes.elements ≡ min (length (flat_map (λ column. struct_bytes (element column)) (take l.place (columns_of l.schema)))) (2 ^ 64 - 1);
  structs : l.sizes.structs ≡ min (length (flat_map (λ v. (written_value v).1) (chunk_structs 4 (take l.place (filled_columns l.schema l.rows))))) (2 ^ 64 - 1);
}
