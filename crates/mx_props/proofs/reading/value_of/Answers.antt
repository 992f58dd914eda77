use Rattle.std.proofs.Common.{◌≡◌, rules, None, Some}
use Rattle.std.specs.Str.{IsUtf8}
use Rattle.std.proofs.lemmas.Bool.Decides.{Decides-eqb}
use Rattle.std.proofs.lemmas.Slice.Eq.{strip_prefix_is}
use Rattle.mx_props.proofs.Texts.{none_behind, no_line, no_text, text_behind}
use Rattle.mx_props.proofs.reading.value_of.Goals as goal

pub returns-in_default : goal.returns-in_default
returns-in_default c = none_behind c.args.bytes.now c.args.key.now (strip_prefix_is Decides-eqb c.args.bytes.now c.args.key.now None c.in_default.ensures.cases)

pub returns-in_default-first_line : goal.returns-in_default-first_line
returns-in_default-first_line c = no_line c.args.bytes.now c.args.key.now c.in-Some.behind.now (strip_prefix_is Decides-eqb c.args.bytes.now c.args.key.now (Some c.in-Some.behind) c.in-Some.ensures.cases) c.in_default-first_line.ensures

pub returns-in-Ok : goal.returns-in-Ok
returns-in-Ok c =
    let same : c.in-Ok.value.now ≡ c.in-Some-first_line.value.now = search rules in
    text_behind c.args.bytes.now c.args.key.now c.in-Some.behind.now c.in-Some-first_line.value.now c.in-Some-first_line.rest.now c.in-Ok.value.now (strip_prefix_is Decides-eqb c.args.bytes.now c.args.key.now (Some c.in-Some.behind) c.in-Some.ensures.cases) c.in-Some-first_line.ensures same

pub returns-in-Err : goal.returns-in-Err
returns-in-Err c =
    let bad : ¬ (IsUtf8 c.in-Some-first_line.value.now) = search rules in
    no_text c.args.bytes.now c.args.key.now c.in-Some.behind.now c.in-Some-first_line.value.now c.in-Some-first_line.rest.now (strip_prefix_is Decides-eqb c.args.bytes.now c.args.key.now (Some c.in-Some.behind) c.in-Some.ensures.cases) c.in-Some-first_line.ensures bad
