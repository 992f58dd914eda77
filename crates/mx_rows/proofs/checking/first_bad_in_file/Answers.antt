use Rattle.std.proofs.Common.{rules}
use Rattle.mx_schema.specs.Rows.{asked, FitsAll}
use Rattle.mx_rows.proofs.TakenLemmas.{taken_more, all_taken}
use Rattle.mx_rows.proofs.checking.first_bad_in_file.Goals as goal

pub loop-row-preserved : goal.loop-row-preserved
loop-row-preserved c = taken_more (FitsAll (asked c.args.schema.now)) c.args.rows.now c.loop-row.row c.index-rows-row.result c.loop-row-test.true c.index-rows-row.is c.loop-row.invariant c.in_default.ensures

pub returns : goal.returns
returns c = all_taken (FitsAll (asked c.args.schema.now)) c.args.rows.now c.loop-row.row (search rules) c.loop-row.invariant
