use Rattle.std.proofs.Common.{All, take, List, ℕ}
use Rattle.mx_open.specs.Deciding.{MeetsObject}
use Rattle.mx_open.specs.Deciding.{IsLeastOther}
use Rattle.mx_open.proofs.faults.object_damaged.Given as goal

abbrev pub invariant-loop-path : goal.invariant-loop-path
invariant-loop-path l = IsLeastOther (λ q. All (λ (path : List ℕ). MeetsObject l.held l.context path q) (take l.path-index l.paths)) l.least
