use Rattle.std.proofs.Common.{take}
use Rattle.mx_store.specs.Objects.{Objects}
use Rattle.mx_groups.specs.Groups.{AreCommits, HoldsThose}
use Rattle.mx_groups.proofs.groups.Groups.of.Given as goal

abbrev pub invariant-loop-commit : goal.invariant-loop-commit
invariant-loop-commit l = (objects : Objects) → AreCommits objects l.commits → HoldsThose objects (take l.commit-index l.commits) l.groups
