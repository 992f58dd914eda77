use Rattle.std.proofs.Common.{rules}
use Rattle.mx_writer.specs.Commit.{RefusesFiles}
use Rattle.mx_writer.proofs.EndLemmas.{err_from}
use Rattle.mx_writer.proofs.checking.check_files.Goals as goal

pub returns-in_err-check_counts-clause-err : goal.returns-in_err-check_counts-clause-err
returns-in_err-check_counts-clause-err c = λ last.
    err_from c.from_residual.result (RefusesFiles c.args.schema.now last c.args.files.now) _ (search rules) (c.in_err-check_counts.ensures.err c.args.schema.now last)

pub returns-in_err-check_groups-clause-err : goal.returns-in_err-check_groups-clause-err
returns-in_err-check_groups-clause-err c = λ last.
    err_from c.from_residual-in_err-check_groups.result (RefusesFiles c.args.schema.now last c.args.files.now) _ (search rules) (c.in_err-check_groups.ensures.err c.args.schema.now last)
