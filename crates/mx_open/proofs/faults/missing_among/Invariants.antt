use Rattle.std.proofs.Common.{◌≡◌, All, take, List, ℕ, IsSome}
use Rattle.mx_store.specs.Objects.{at_path}
use Rattle.mx_open.specs.Deciding.{IsReadableLog}
use Rattle.mx_open.specs.Deciding.{IsLeastOther}
use Rattle.mx_open.proofs.faults.missing_among.Given as goal

abbrev pub invariant-loop-log : goal.invariant-loop-log
invariant-loop-log l = IsLeastOther (λ q. All (λ (log : List ℕ). q ≡ log → IsReadableLog l.context l.at q → IsSome (at_path l.held q)) (take l.log-index l.logs)) l.least
