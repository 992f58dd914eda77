use Rattle.std.proofs.Common.{All, take}
use Rattle.mx_schema.specs.Rows.{asked, FitsAll}
use Rattle.mx_rows.proofs.checking.first_bad_in_file.Given as goal

abbrev pub invariant-loop-row : goal.invariant-loop-row
invariant-loop-row l = All (FitsAll (asked l.schema)) (take l.row l.rows)
