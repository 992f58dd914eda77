use Rattle.std.proofs.Common.{◌∙◌, ◌-◌, ap, refl, sym, Some, arith}
use Rattle.std.proofs.lemmas.Option.{slice_get_read}
use Rattle.mx_parquet.proofs.Cells.{behind_hudi}
use Rattle.mx_parquet.proofs.column.column_at.Goals as goal

pub returns : goal.returns
returns c =
    behind_hudi c.args.schema.now c.args.place _ c.if-place-lt-HUDI_COUNT.false
    (slice_get_read c.args.schema.now _ (c.args.place - 5) c.index-schema-place.result refl (omega arith) c.index-schema-place.is ∙ ap Some (sym c.schema_column.ensures))
