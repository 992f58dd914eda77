use Rattle.std.proofs.Common.{◌≡◌, ◌++◌, take}
use Rattle.mx_commit.specs.Grouping.{group_stats}
use Rattle.mx_commit.proofs.meta.push_group.Given as goal

abbrev pub invariant-loop-entry : goal.invariant-loop-entry
invariant-loop-entry l = l.stats ≡ l.fn.stats ++ group_stats (take l.entry-index l.written) l.partition l.id
