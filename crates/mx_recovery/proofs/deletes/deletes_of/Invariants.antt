use Rattle.std.proofs.Common.{take}
use Rattle.std.specs.Prelude.{All}
use Rattle.mx_world.specs.Mirror.{IsNoConfig}
use Rattle.mx_store.specs.Objects.{Objects}
use Rattle.mx_recovery.specs.Planning.{AreStanding, IsDeletion}
use Rattle.mx_recovery.proofs.PlanLemmas.{AreDeleted}
use Rattle.mx_recovery.proofs.deletes.deletes_of.Given as goal

abbrev pub invariant-loop-path : goal.invariant-loop-path
invariant-loop-path l = record {
  plain : All IsDeletion l.changes;
  deletes : (objects : Objects) → AreStanding l.fn.standing objects → All IsNoConfig l.paths → AreDeleted objects (take l.path-index l.paths) l.changes l.standing;
}
