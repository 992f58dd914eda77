use Rattle.std.proofs.Common.{◌≡◌, List, ℕ, IsSome, rules}
use Rattle.mx_store.specs.Objects.{at_path}
use Rattle.mx_open.specs.Deciding.{IsReadableLog}
use Rattle.mx_open.proofs.LeastLemmas.{least_more, least_all}
use Rattle.mx_open.proofs.faults.missing_among.Goals as goal

pub loop-log-preserved : goal.loop-log-preserved
loop-log-preserved c =
    least_more (λ (log : List ℕ) (q : List ℕ). q ≡ log → IsReadableLog c.args.context.now c.args.at q → IsSome (at_path c.args.held.now q)) c.args.logs.now c.loop-log.log-index c.log-item.result c.loop-log.least c.in_ok-missing_log.field-0 c.lesser-least.result (search rules) c.log-item.is
    c.loop-log.invariant c.in_ok-missing_log.ensures c.lesser-least.ensures

pub returns : goal.returns
returns c = least_all (λ (log : List ℕ) (q : List ℕ). q ≡ log → IsReadableLog c.args.context.now c.args.at q → IsSome (at_path c.args.held.now q)) c.args.logs.now c.loop-log.log-index c.loop-log.least (search rules) c.loop-log.invariant
