use Rattle.std.proofs.Common.{refl, rules, List, length, ◌<◌, ◌≢◌}
use Rattle.mx_base.specs.declared.part.Part.{Part}
use Rattle.mx_props.specs.Config.{parts_text}
use Rattle.mx_props.proofs.LineLemmas.{available_none, available_other, available_found, available_some, unavailable}
use Rattle.mx_props.proofs.reading.available_in.Goals as goal

pub returns-in_default : goal.returns-in_default
returns-in_default c = (refl, available_none c.args.bytes.now c.in_default.ensures)

pub returns-in_default-2 : goal.returns-in_default-2
returns-in_default-2 c =
    let none : (parts : List Part) → 0 < length parts → c.in-Some.value.now ≢ parts_text parts = search rules in
    (refl, available_other c.args.bytes.now c.in-Some.value.now c.in-Some.rest.now c.in-Some.ensures (λ parts are. none parts (available_some parts are)))

pub returns-then-not-are_available : goal.returns-then-not-are_available
returns-then-not-are_available c = (refl, available_other c.args.bytes.now c.in-Some.value.now c.in-Some.rest.now c.in-Some.ensures (unavailable c.in-Some.value.now c.in-Some-2.parts (search rules) (search rules)))

pub returns : goal.returns
returns c = (search rules, available_found c.args.bytes.now c.in-Some.value.now c.in-Some.rest.now c.in-Some-2.parts (c.in-Some.ensures).1 (search rules))
