use Rattle.std.proofs.Common.{List, rules, subst}
use Rattle.std.specs.Result.{IfErr}
use Rattle.mx_schema.specs.declared.column.Column.{Column}
use Rattle.mx_writer.specs.Commit.{RefusesFiles}
use Rattle.mx_writer.proofs.EndLemmas.{err_from}
use Rattle.mx_writer.proofs.committing.files_made.Goals as goal

pub returns-in_err-check_files-clause-err : goal.returns-in_err-check_files-clause-err
returns-in_err-check_files-clause-err g c =
    subst (λ (schema : List Column). IfErr c.from_residual.result (RefusesFiles schema c.args.table.now.last c.args.files.now)) c.schema_of-schema.ensures.schema
    (err_from c.from_residual.result (RefusesFiles c.schema_of-schema.result.now c.args.table.now.last c.args.files.now) _ (search rules) (c.in_err-check_files.ensures.err c.args.table.now.last))
