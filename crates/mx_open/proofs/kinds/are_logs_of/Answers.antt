use Rattle.std.proofs.Common.{rules}
use Rattle.mx_folder.specs.Reading.{IsLogOf}
use Rattle.mx_meta.proofs.JsonLemmas.{named_more}
use Rattle.mx_open.proofs.KindLemmas.{one_not, all_taken, said_not, said_so}
use Rattle.mx_open.proofs.kinds.are_logs_of.Goals as goal

pub returns-then-not-is_log_of : goal.returns-then-not-is_log_of
returns-then-not-is_log_of c = one_not (IsLogOf c.args.at) c.args.paths.now c.loop-path.path-index c.path-item.result (search rules) c.path-item.is (said_not c.is_log_of.result (IsLogOf c.args.at c.path-item.result) c.if-not-is_log_of.true c.is_log_of.ensures)

pub loop-path-preserved : goal.loop-path-preserved
loop-path-preserved c =
    named_more (IsLogOf c.args.at) c.args.paths.now c.loop-path.path-index c.path-item.result c.loop-path.invariant (said_so c.is_log_of.result (IsLogOf c.args.at c.path-item.result) c.if-not-is_log_of.false c.is_log_of.ensures) (search rules) c.path-item.is

pub returns : goal.returns
returns c = all_taken (IsLogOf c.args.at) c.args.paths.now c.loop-path.path-index (search rules) c.loop-path.invariant
