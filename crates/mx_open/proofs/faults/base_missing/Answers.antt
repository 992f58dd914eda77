use Rattle.std.proofs.Common.{◌≡◌, List, ℕ, IsSome, rules}
use Rattle.mx_store.specs.Objects.{at_path}
use Rattle.mx_open.specs.Deciding.{IsReadableBase}
use Rattle.mx_open.proofs.LeastLemmas.{least_more, least_all}
use Rattle.mx_open.proofs.faults.base_missing.Goals as goal

pub loop-base-preserved : goal.loop-base-preserved
loop-base-preserved c =
    least_more (λ (base : List ℕ) (q : List ℕ). q ≡ base → IsReadableBase c.args.context.now q → IsSome (at_path c.args.held.now q)) c.args.bases.now c.loop-base.base-index c.base-item.result c.loop-base.least c.in_ok-missing_base.field-0 c.lesser-least.result (search rules) c.base-item.is
    c.loop-base.invariant c.in_ok-missing_base.ensures c.lesser-least.ensures

pub returns : goal.returns
returns c = least_all (λ (base : List ℕ) (q : List ℕ). q ≡ base → IsReadableBase c.args.context.now q → IsSome (at_path c.args.held.now q)) c.args.bases.now c.loop-base.base-index c.loop-base.least (search rules) c.loop-base.invariant
