use Rattle.std.proofs.Common.{◌≡◌, ℕ, List, Result, Err, ap, subst, ◌∙◌, refl, rules}
use Rattle.mx_schema.specs.Columns.{IsOnly}
use Rattle.mx_schema.specs.declared.column.Column.{Column}
use Rattle.mx_schema.specs.declared.error.SchemaError.{SchemaError}
use Rattle.mx_schema.specs.declared.error.SchemaError.TheVariants.{BadSchema}
use Rattle.mx_props.proofs.LineLemmas.{schema_none, schema_other, schema_found}
use Rattle.mx_props.proofs.reading.schema_in.Goals as goal

-- a text that is refused spells no schema
never : (schema : List Column) (r : Result (List Column) SchemaError) (at : ℕ) → r ≡ Err (BadSchema at) → IsOnly schema r → ⊥
never schema r at e h = subst (IsOnly schema) e h

pub returns-in_default : goal.returns-in_default
returns-in_default c = (refl, schema_none c.args.bytes.now c.in_default.ensures)

pub returns-in-Ok : goal.returns-in-Ok
returns-in-Ok c = (search rules, schema_found c.args.bytes.now c.in-Some.value.now c.in-Some.rest.now c.in-Ok.schema (c.in-Some.ensures).1 (search rules))

pub returns-in-Err-BadSchema : goal.returns-in-Err-BadSchema
returns-in-Err-BadSchema c = (refl, schema_other c.args.bytes.now c.in-Some.value.now c.in-Some.rest.now c.in-Some.ensures (λ schema is e. never schema c.parse.result c.in-Err-BadSchema.field-0-0 (c.in-Err-BadSchema.is ∙ ap Err c.in-Err-BadSchema.field-0-is) (c.parse.ensures.only schema is e)))
