use Rattle.mx_merge.specs.Said.{AreEntries}
use Rattle.mx_merge.proofs.merging.shown_entries.Given as goal

abbrev pub invariant-loop-key : goal.invariant-loop-key
invariant-loop-key l = AreEntries l.yielded l.entries
