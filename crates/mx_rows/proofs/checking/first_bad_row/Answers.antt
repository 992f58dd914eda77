use Rattle.std.proofs.Common.{rules, subst, sym}
use Rattle.mx_ask.specs.declared.ask.FileRows.{FileRows}
use Rattle.mx_rows.specs.Checks.{RowsFit}
use Rattle.mx_rows.proofs.TakenLemmas.{taken_more, all_taken}
use Rattle.mx_rows.proofs.checking.first_bad_row.Goals as goal

pub loop-file-preserved : goal.loop-file-preserved
loop-file-preserved c =
    let fits = subst (λ (file : FileRows). RowsFit c.args.schema.now file.rows) (sym c.index-files-file.is) (subst (RowsFit c.args.schema.now) c.as_slice.ensures c.in_default.ensures) in
    taken_more (λ (file : FileRows). RowsFit c.args.schema.now file.rows) c.args.files.now c.loop-file.file c.index-files-file.result c.loop-file-test.true c.index-files-file.is c.loop-file.invariant fits

pub returns : goal.returns
returns c = all_taken (λ (file : FileRows). RowsFit c.args.schema.now file.rows) c.args.files.now c.loop-file.file (search rules) c.loop-file.invariant
