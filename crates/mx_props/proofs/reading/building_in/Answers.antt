use Rattle.std.proofs.Common.{refl, rules}
use Rattle.mx_props.proofs.LineLemmas.{building_none, building_other, building_found, not_apart}
use Rattle.mx_props.proofs.reading.building_in.Goals as goal

pub returns-in_default : goal.returns-in_default
returns-in_default c = (refl, building_none c.args.bytes.now c.args.available.now c.in_default.ensures)

pub returns-in_default-building_of : goal.returns-in_default-building_of
returns-in_default-building_of c = (refl, building_other c.args.bytes.now c.in-Some.value.now c.in-Some.rest.now c.args.available.now c.in-Some.ensures (λ building apart. c.in_default-building_of.ensures building))

pub returns-then-not-is_apart : goal.returns-then-not-is_apart
returns-then-not-is_apart c = (refl, building_other c.args.bytes.now c.in-Some.value.now c.in-Some.rest.now c.args.available.now c.in-Some.ensures (not_apart c.in-Some.value.now c.args.available.now c.in-Some-building_of.building c.in-Some-building_of.ensures (search rules)))

pub returns : goal.returns
returns c = (search rules, building_found c.args.bytes.now c.in-Some.value.now c.in-Some.rest.now c.in-Some-building_of.building (c.in-Some.ensures).1 c.in-Some-building_of.ensures)
