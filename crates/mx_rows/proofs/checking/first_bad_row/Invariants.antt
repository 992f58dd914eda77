use Rattle.std.proofs.Common.{All, take}
use Rattle.mx_ask.specs.declared.ask.FileRows.{FileRows}
use Rattle.mx_rows.specs.Checks.{RowsFit}
use Rattle.mx_rows.proofs.checking.first_bad_row.Given as goal

abbrev pub invariant-loop-file : goal.invariant-loop-file
invariant-loop-file l = All (λ (file : FileRows). RowsFit l.schema file.rows) (take l.file l.files)
