use Rattle.std.proofs.Common.{rules}
use Rattle.mx_schema.proofs.ColumnLemmas.{only, same_schema}
use Rattle.mx_schema.proofs.schema.Schema.parse.Goals as goal

pub returns-in_err-columns-clause-only : goal.returns-in_err-columns-clause-only
returns-in_err-columns-clause-only c = λ schema is e. only c.args.text.now schema c.from_residual.result is e (search rules) (search rules)

pub returns-clause-only : goal.returns-clause-only
returns-clause-only c = λ schema is e. same_schema c.in_ok-columns.columns schema (search rules) is (search rules)
