use Rattle.std.proofs.Common.{◌≡◌, ◌-◌, ◌^◌, length, map}
use Rattle.std.specs.Prelude.{min}
use Rattle.std.specs.List.{sum_by}
use Rattle.std.specs.Map.Iter.{deref}
use Rattle.mx_groups.proofs.groups.count_of.Given as goal

abbrev pub invariant-loop-groups : goal.invariant-loop-groups
invariant-loop-groups l = l.count ≡ min (2 ^ 64 - 1) (sum_by (λ groups. length groups) (map deref l.yielded))
