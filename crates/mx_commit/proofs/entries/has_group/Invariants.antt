use Rattle.std.proofs.Common.{◌≡◌, false, take}
use Rattle.std.specs.List.{list_any}
use Rattle.mx_commit.specs.Grouping.{is_same_group}
use Rattle.mx_commit.proofs.entries.has_group.Given as goal

abbrev pub invariant-loop-other : goal.invariant-loop-other
invariant-loop-other l = list_any (is_same_group l.file) (take l.other-index l.files) ≡ false
