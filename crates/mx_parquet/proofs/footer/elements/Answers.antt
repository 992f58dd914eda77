use Rattle.std.proofs.Common.{◌∙◌, ◌∷◌, ap, map, List, length}
use Rattle.mx_schema.specs.declared.column.Column.{Column}
use Rattle.mx_thrift.specs.declared.value.Value.TheVariants as values
use Rattle.mx_parquet.specs.Columns.{columns_of}
use Rattle.mx_parquet.specs.Shape.{root_element, element}
use Rattle.mx_parquet.specs.Seen.{seen}
use Rattle.mx_parquet.proofs.Files.{elements_begin, elements_more, all_columns}
use Rattle.mx_parquet.proofs.footer.elements.Goals as goal

pub loop-place-init : goal.loop-place-init
loop-place-init c = elements_begin c.args.schema.now c.in_ok-root_element.field-0 c.new-items.result c.push.new.self c.new-items.ensures c.in_ok-push.ensures.ok c.in_ok-root_element.ensures

pub loop-place-preserved : goal.loop-place-preserved
loop-place-preserved c =
    let l = c.loop-place in
    elements_more c.args.schema.now l.place (seen c.column_at-column.result) c.in_ok-element.field-0 l.items c.push-in-loop-place.new.self c.column_at-column.ensures c.in_ok-element.ensures l.invariant c.in_ok-push-2.ensures.ok

pub returns : goal.returns
returns c =
    let l = c.loop-place in
    l.invariant
    ∙ ap (λ (cs : List Column). values.Struct (root_element (length (columns_of c.args.schema.now))) ∷ map (λ (c : Column). values.Struct (element c)) cs) (all_columns c.args.schema.now l.place c.loop-place-test.false)
