use Rattle.std.specs.Prelude.{take}
use Rattle.mx_commit.specs.Written.{AreWritten}
use Rattle.mx_commit.proofs.tests.entries_of.Given as goal

abbrev pub invariant-loop-file : goal.invariant-loop-file
invariant-loop-file l = AreWritten (take l.file-index l.files) l.at l.entries.items
