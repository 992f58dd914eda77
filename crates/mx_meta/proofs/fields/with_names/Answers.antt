use Rattle.std.proofs.Common.{◌∙◌, sym}
use Rattle.std.specs.Prelude.{map}
use Rattle.serde_json.specs.View.{view}
use Rattle.mx_meta.proofs.JsonLemmas.{with_names_is, with_names_none}
use Rattle.mx_meta.proofs.fields.with_names.Goals as goal

pub returns-then-has_fields : goal.returns-then-has_fields
returns-then-has_fields c = sym (with_names_is (map (λ name. name.now) c.args.names.now) (view c.args.value.now) (sym c.has_fields.ensures ∙ c.if-has_fields.true))

pub returns-else-has_fields : goal.returns-else-has_fields
returns-else-has_fields c = sym (with_names_none (map (λ name. name.now) c.args.names.now) (view c.args.value.now) (sym c.has_fields.ensures ∙ c.if-has_fields.false))
