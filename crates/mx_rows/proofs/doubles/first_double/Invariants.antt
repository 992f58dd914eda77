use Rattle.std.proofs.Common.{All, take}
use Rattle.mx_ask.specs.declared.ask.FileRows.{FileRows}
use Rattle.mx_rows.specs.Checks.{AreDistinct, keys_of}
use Rattle.mx_rows.proofs.doubles.first_double.Given as goal

abbrev pub invariant-loop-file : goal.invariant-loop-file
invariant-loop-file l = All (λ (file : FileRows). AreDistinct (keys_of file.rows)) (take l.file-index l.files)
