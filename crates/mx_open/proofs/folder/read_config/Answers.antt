use Rattle.std.proofs.Common.{refl, sym, ◌∙◌, ap}
use Rattle.mx_base.specs.declared.object_name.ObjectName.TheVariants.{Config}
use Rattle.mx_store.specs.Objects.{at_path}
use Rattle.mx_folder.proofs.NamedLemmas.{object_at-is}
use Rattle.mx_open.proofs.OpeningLemmas.{config_stands}
use Rattle.mx_open.proofs.folder.read_config.Goals as goal

pub returns-in-Some : goal.returns-in-Some
returns-in-Some c =
    c.read_props.ensures c.args.held.now (config_stands c.args.held.now c.in_ok-path.path c.in-Some.bytes.now c.as_slice.result.now c.in_ok-path.ensures c.in-Some.ensures c.as_slice.ensures)

pub returns : goal.returns
returns c = object_at-is c.args.held.now Config refl ∙ ap (at_path c.args.held.now) (sym c.in_ok-path.ensures) ∙ sym c.in-None.ensures
