use Rattle.std.proofs.Common.{◌≡◌, ℕ, take}
use Rattle.std.specs.List.{list_any}
use Rattle.std.specs.BTreeSet.{contains}
use Rattle.std.specs.Ordering.{nat_cmp}
use Rattle.mx_timeline.specs.Stages.{begins}
use Rattle.mx_timeline.proofs.stages.begun_instants.Given as goal

abbrev pub invariant-loop-object : goal.invariant-loop-object
invariant-loop-object l = (q : ℕ) → contains nat_cmp l.instants q ≡ list_any (begins l.kind q) (take l.object-index l.objects)
