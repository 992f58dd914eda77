use Rattle.std.proofs.Common.{◌≡◌, drop}
use Rattle.mx_meta.specs.Rising.{rises_from, is_rising}
use Rattle.mx_meta.proofs.rising.is_rising.Given as goal

-- what is left decides
abbrev pub invariant-loop-item : goal.invariant-loop-item
invariant-loop-item g l = rises_from g.T.Rises.below l.before (drop l.item-index l.rest) ≡ is_rising g.T.Rises.below l.items
