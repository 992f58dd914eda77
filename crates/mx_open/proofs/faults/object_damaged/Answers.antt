use Rattle.std.proofs.Common.{List, ℕ, rules}
use Rattle.mx_open.specs.Deciding.{MeetsObject}
use Rattle.mx_open.proofs.LeastLemmas.{least_more, least_all}
use Rattle.mx_open.proofs.faults.object_damaged.Goals as goal

pub loop-path-preserved : goal.loop-path-preserved
loop-path-preserved c =
    least_more (λ (path : List ℕ) (q : List ℕ). MeetsObject c.args.held.now c.args.context.now path q) c.args.paths.now c.loop-path.path-index c.path-item.result c.loop-path.least c.in_ok-damaged_by.field-0 c.lesser-least.result (search rules) c.path-item.is
    c.loop-path.invariant c.in_ok-damaged_by.ensures.least c.lesser-least.ensures

pub returns : goal.returns
returns c = record { least = least_all (λ (path : List ℕ) (q : List ℕ). MeetsObject c.args.held.now c.args.context.now path q) c.args.paths.now c.loop-path.path-index c.loop-path.least (search rules) c.loop-path.invariant }
