use Rattle.std.specs.Prelude.{Some}
use Rattle.open_bench.proofs.table.opened.Given as goal

abbrev pub ghosts-filled : goal.ghosts-filled
ghosts-filled a = record { opening = Some a.store.changes; count = a.store.faults; moment = a.now }
