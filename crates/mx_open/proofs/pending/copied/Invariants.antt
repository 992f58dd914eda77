use Rattle.std.proofs.Common.{◌≡◌, take}
use Rattle.mx_open.proofs.pending.copied.Given as goal

abbrev pub invariant-loop-path : goal.invariant-loop-path
invariant-loop-path l = l.copies ≡ take l.path-index l.paths
