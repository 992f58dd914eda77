use Rattle.std.specs.Prelude.{Some}
use Rattle.mdt.proofs.tests.run_at.Given as goal

abbrev pub ghosts-run_over : goal.ghosts-run_over
ghosts-run_over a = record { opening = Some a.store.changes; count = a.store.faults; moment = a.now }
