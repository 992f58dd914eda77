use Rattle.std.proofs.Common.{◌≡◌, ◌∷◌, map, take, length}
use Rattle.mx_thrift.specs.declared.value.Value.TheVariants as values
use Rattle.mx_parquet.specs.Columns.{columns_of}
use Rattle.mx_parquet.specs.Shape.{root_element, element}
use Rattle.mx_parquet.proofs.footer.elements.Given as goal

abbrev pub invariant-loop-place : goal.invariant-loop-place
invariant-loop-place l =
    l.items ≡ values.Struct (root_element (length (columns_of l.schema))) ∷ map (λ column. values.Struct (element column)) (take l.place (columns_of l.schema))
