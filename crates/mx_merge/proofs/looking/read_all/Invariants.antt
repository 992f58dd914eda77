use Rattle.std.proofs.Common.{◌≡◌, drop}
use Rattle.std.specs.List.{fold}
use Rattle.mx_merge.specs.Merged.{values_on_key}
use Rattle.mx_merge.specs.Said.{heard, IsKnown}
use Rattle.mx_merge.proofs.looking.read_all.Given as goal

abbrev pub invariant-loop-entry : goal.invariant-loop-entry
invariant-loop-entry l = (fold heard l.known (values_on_key l.key (drop l.entry-index l.entries)) ≡ fold heard l.fn.known (values_on_key l.key l.entries)) × IsKnown l.known
