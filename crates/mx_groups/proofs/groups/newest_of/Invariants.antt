use Rattle.std.proofs.Common.{map}
use Rattle.std.specs.Map.Iter.{deref_pair}
use Rattle.mx_groups.specs.Groups.{IsNewestIn}
use Rattle.mx_groups.proofs.groups.newest_of.Given as goal

abbrev pub invariant-loop-at : goal.invariant-loop-at
invariant-loop-at l = IsNewestIn (map deref_pair l.yielded) l.group l.newest
