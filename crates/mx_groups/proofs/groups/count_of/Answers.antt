use Rattle.std.proofs.Common.{◌∙◌, ◌+◌, ◌-◌, ◌^◌, ℕ, ap}
use Rattle.std.specs.Prelude.{min}
use Rattle.std.specs.Map.Iter.{deref}
use Rattle.mx_groups.proofs.CountLemmas.{count_next}
use Rattle.mx_groups.proofs.groups.count_of.Goals as goal

pub loop-groups-preserved : goal.loop-groups-preserved
loop-groups-preserved c = count_next deref c.loop-groups.yielded c.in-Some.groups c.loop-groups.count c.saturating_add-count.result c.loop-groups.invariant (c.saturating_add-count.ensures ∙ ap (λ (n : ℕ). min (c.loop-groups.count + n) (2 ^ 64 - 1)) c.len.ensures)
