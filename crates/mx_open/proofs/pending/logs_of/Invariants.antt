use Rattle.std.proofs.Common.{take}
use Rattle.mx_open.specs.Leaving.{AreLogged}
use Rattle.mx_open.proofs.pending.logs_of.Given as goal

abbrev pub invariant-loop-path : goal.invariant-loop-path
invariant-loop-path l = AreLogged l.instants (take l.path-index l.names) l.logs
