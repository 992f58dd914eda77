use Rattle.std.proofs.Common.{Option, List, ℕ, Ok, subst}
use Rattle.mx_props.specs.Config.{Config}
use Rattle.mx_open.specs.Deciding.{IsLeastOther, IsUnharmed}
use Rattle.mx_open.specs.Opening.{SaysConfig}
use Rattle.mx_open.proofs.OpeningLemmas.{current_of, config_damaged}
use Rattle.mx_open.proofs.folder.open_held.Goals as goal

pub returns-in-Some : goal.returns-in-Some
returns-in-Some c =
    (current_of c.args.held.now c.in_ok-config.config c.in_ok-config.ensures, subst (λ (x : Option (List ℕ)). IsLeastOther (IsUnharmed c.args.held.now) x) c.in-Some.is c.in_ok-path.ensures.least)

pub unreachable-requires : goal.unreachable-requires
unreachable-requires c =
    config_damaged c.args.held.now (subst (λ (x : Option Config). SaysConfig c.args.held.now (Ok x)) c.in-None.is c.in_ok-config.ensures)
    (subst (λ (x : Option (List ℕ)). IsLeastOther (IsUnharmed c.args.held.now) x) c.in_default.is c.in_ok-path.ensures.least)
