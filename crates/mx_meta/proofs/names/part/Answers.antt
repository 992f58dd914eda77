use Rattle.serde_json.specs.View.{view}
use Rattle.mx_meta.proofs.NameLemmas.{no_part, part_found}
use Rattle.mx_meta.proofs.names.part.Goals as goal

pub returns-in-Ok : goal.returns-in-Ok
returns-in-Ok c = part_found c.in_ok-text.text.now (view c.args.value.now) c.in-Ok.part c.in-Ok.ensures.ok c.in_ok-text.ensures

pub returns-in-Err : goal.returns-in-Err
returns-in-Err c = no_part c.in_ok-text.text.now (view c.args.value.now) c.in-Err.field-0 c.parse.ensures.only c.in-Err.is c.in_ok-text.ensures
