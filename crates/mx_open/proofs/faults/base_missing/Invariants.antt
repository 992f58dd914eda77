use Rattle.std.proofs.Common.{◌≡◌, All, take, List, ℕ, IsSome}
use Rattle.mx_store.specs.Objects.{at_path}
use Rattle.mx_open.specs.Deciding.{IsReadableBase}
use Rattle.mx_open.specs.Deciding.{IsLeastOther}
use Rattle.mx_open.proofs.faults.base_missing.Given as goal

abbrev pub invariant-loop-base : goal.invariant-loop-base
invariant-loop-base l = IsLeastOther (λ q. All (λ (base : List ℕ). q ≡ base → IsReadableBase l.context q → IsSome (at_path l.held q)) (take l.base-index l.bases)) l.least
