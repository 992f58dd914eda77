use Rattle.std.proofs.Common.{◌≡◌, All, List, ℕ, IsSome, IfOk, subst}
use Rattle.mx_store.specs.Objects.{at_path}
use Rattle.mx_open.specs.Deciding.{IsLeastOther, IsReadableLog}
use Rattle.mx_open.proofs.LeastLemmas.{logs_met}
use Rattle.mx_open.proofs.faults.log_missing.Goals as goal

pub returns-in-Ok : goal.returns-in-Ok
returns-in-Ok c =
    logs_met c.args.held.now c.args.context.now c.args.at c.args.bytes.now c.in-Ok.meta c.in-Ok.ensures.ok c.missing_among.result
    (subst (λ (logs : List (List ℕ)). IfOk c.missing_among.result (IsLeastOther (λ q. All (λ (log : List ℕ). q ≡ log → IsReadableLog c.args.context.now c.args.at q → IsSome (at_path c.args.held.now q)) logs)))
    c.logs.ensures.value c.missing_among.ensures)
