use Rattle.std.proofs.Common.{None}
use Rattle.commit_bench.proofs.table.committed.Given as goal

abbrev pub ghosts-filled : goal.ghosts-filled
ghosts-filled a = record { opening = None; count = 0; moment = a.now }
