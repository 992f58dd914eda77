use Rattle.std.proofs.Common.{◌≡◌, ◌≢◌, ◌++◌, ap, length, List, subst, rules}
use Rattle.mx_base.specs.declared.part.Part.{Part}
use Rattle.mx_props.specs.Config.{IsApart, building_line}
use Rattle.mx_props.specs.Reading.{Refuses}
use Rattle.mx_props.proofs.ConfigLemmas.{refused_first, refused_second, refused_third, refused_fourth, refused_end}
use Rattle.mx_props.proofs.reading.lines_in.Goals as goal

pub returns-in_err-available-clause-bad : goal.returns-in_err-available-clause-bad
returns-in_err-available-clause-bad c = refused_first c.args.bytes.now c.from_residual.result c.in_err-available.field-0.0 (search rules) c.in_err-available.ensures

pub returns-in_err-building-clause-bad : goal.returns-in_err-building-clause-bad
returns-in_err-building-clause-bad c =
    refused_second c.args.bytes.now c.in_ok-available.rest.now c.in_ok-available.available c.from_residual-in_err-building.result c.in_err-building.field-0.0 (search rules) c.in_ok-available.ensures
    (subst (λ (ps : List Part). Refuses (IsApart ps) 1 building_line c.in_ok-available.rest.now c.in_err-building.field-0.0) c.as_slice.ensures c.in_err-building.ensures)

pub returns-in_default-clause-bad : goal.returns-in_default-clause-bad
returns-in_default-clause-bad c =
    let second : IsApart c.in_ok-available.available c.in_ok-building.building × (c.in_ok-available.rest.now ≡ building_line c.in_ok-building.building ++ c.in_ok-building.rest.now) =
    subst (λ (ps : List Part). IsApart ps c.in_ok-building.building × (c.in_ok-available.rest.now ≡ building_line c.in_ok-building.building ++ c.in_ok-building.rest.now)) c.as_slice.ensures c.in_ok-building.ensures in
    refused_third c.args.bytes.now c.in_ok-available.rest.now c.in_ok-building.rest.now c.in_ok-available.available c.in_ok-building.building c.in_ok-available.ensures second c.in_default.ensures

pub returns-in_err-schema-clause-bad : goal.returns-in_err-schema-clause-bad
returns-in_err-schema-clause-bad c =
    let second : IsApart c.in_ok-available.available c.in_ok-building.building × (c.in_ok-available.rest.now ≡ building_line c.in_ok-building.building ++ c.in_ok-building.rest.now) =
    subst (λ (ps : List Part). IsApart ps c.in_ok-building.building × (c.in_ok-available.rest.now ≡ building_line c.in_ok-building.building ++ c.in_ok-building.rest.now)) c.as_slice.ensures c.in_ok-building.ensures in
    refused_fourth c.args.bytes.now c.in_ok-available.rest.now c.in_ok-building.rest.now c.in-Some.rest.now c.in_ok-available.available c.in_ok-building.building c.from_residual-in_err-schema.result c.in_err-schema.field-0.0 (search rules)
    c.in_ok-available.ensures second c.in-Some.ensures c.in_err-schema.ensures

pub returns-then-not-is_empty-clause-bad : goal.returns-then-not-is_empty-clause-bad
returns-then-not-is_empty-clause-bad c =
    let second : IsApart c.in_ok-available.available c.in_ok-building.building × (c.in_ok-available.rest.now ≡ building_line c.in_ok-building.building ++ c.in_ok-building.rest.now) =
    subst (λ (ps : List Part). IsApart ps c.in_ok-building.building × (c.in_ok-available.rest.now ≡ building_line c.in_ok-building.building ++ c.in_ok-building.rest.now)) c.as_slice.ensures c.in_ok-building.ensures in
    refused_end c.args.bytes.now c.in_ok-available.rest.now c.in_ok-building.rest.now c.in-Some.rest.now c.in_ok-schema.rest.now c.in_ok-available.available c.in_ok-building.building c.in_ok-schema.schema
    c.in_ok-available.ensures second c.in-Some.ensures c.in_ok-schema.ensures (λ none. let empty : length c.in_ok-schema.rest.now ≡ 0 = ap length none in let filled : length c.in_ok-schema.rest.now ≢ 0 = search rules in filled empty)
