use Rattle.std.specs.Prelude.{take}
use Rattle.mx_writer.specs.Commit.{AreEntries}
use Rattle.mx_writer.proofs.committing.entries_of.Given as goal

abbrev pub invariant-loop-file : goal.invariant-loop-file
invariant-loop-file g l = AreEntries (g.S.Store.journal l.table.store) (take l.file-index l.files) l.at l.entries.items
