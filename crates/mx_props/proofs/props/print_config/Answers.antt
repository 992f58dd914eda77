use Rattle.std.proofs.Common.{◌≡◌, List, ℕ, subst, ◌∙◌, rules}
use Rattle.std.specs.Prelude.{IfOk}
use Rattle.mx_props.specs.Config.{Config, config_text}
use Rattle.mx_props.proofs.ConfigLemmas.{printed}
use Rattle.mx_props.proofs.props.print_config.Goals as goal

pub returns : goal.returns
returns c =
    let config : Config = record { available = c.args.available.now; building = c.args.building; schema = c.args.schema.now } in
    let text : c.as_bytes.result.now ≡ config_text config = c.as_bytes.ensures.value ∙ c.in_ok-text.ensures ∙ printed config c.as_str.result.now c.building_text.result.now c.as_str-2.result.now (search rules) (search rules) (search rules) in
    subst (λ (t : List ℕ). IfOk c.from_slice.result (λ bytes. bytes ≡ t)) text c.from_slice.ensures
