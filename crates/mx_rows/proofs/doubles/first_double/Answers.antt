use Rattle.std.proofs.Common.{List, rules, subst}
use Rattle.mx_ask.specs.declared.ask.FileRows.{FileRows}
use Rattle.mx_rows.specs.Checks.{Row, AreDistinct, keys_of}
use Rattle.mx_rows.proofs.TakenLemmas.{taken_more, all_taken}
use Rattle.mx_rows.proofs.doubles.first_double.Goals as goal

abbrev IsDistinct : FileRows → Type 0
IsDistinct file = AreDistinct (keys_of file.rows)

pub loop-file-preserved : goal.loop-file-preserved
loop-file-preserved c =
    let distinct : AreDistinct (keys_of c.as_slice.result.now) = search rules in
    taken_more IsDistinct c.args.files.now c.loop-file.file-index c.file-item.result c.loop-file-test.true c.file-item.is c.loop-file.invariant (subst (λ (rows : List Row). AreDistinct (keys_of rows)) c.as_slice.ensures distinct)

pub returns : goal.returns
returns c = all_taken IsDistinct c.args.files.now c.loop-file.file-index (search rules) c.loop-file.invariant
