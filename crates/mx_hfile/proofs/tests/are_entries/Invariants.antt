use Rattle.std.proofs.Common.{[], drop}
use Rattle.std.specs.List.{AllByRecursion}
use Rattle.mx_hfile.specs.Encoding.{RiseFrom, HasKey}
use Rattle.mx_hfile.proofs.tests.are_entries.Given as goal

abbrev pub invariant-loop-entry : goal.invariant-loop-entry
invariant-loop-entry l = record {
  rising : RiseFrom l.last (drop l.entry-index l.entries) → RiseFrom [] l.entries;
  each : AllByRecursion HasKey (drop l.entry-index l.entries) → AllByRecursion HasKey l.entries;
}
