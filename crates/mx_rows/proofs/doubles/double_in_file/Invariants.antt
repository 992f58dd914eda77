use Rattle.std.proofs.Common.{take}
use Rattle.mx_rows.specs.Checks.{AreDistinct, keys_of}
use Rattle.mx_rows.specs.Found.{HasKeys}
use Rattle.mx_rows.proofs.doubles.double_in_file.Given as goal

abbrev pub invariant-loop-row : goal.invariant-loop-row
invariant-loop-row l = record {
  distinct : AreDistinct (keys_of (take l.row-index l.rows));
  met : HasKeys l.met (keys_of (take l.row-index l.rows));
}
