use Rattle.std.proofs.Common.{sym}
use Rattle.std.proofs.lemmas.List.Elements.{All-contains}
use Rattle.mx_folder.specs.Pending.{deletes}
use Rattle.mx_world.specs.Mirror.{IsNoConfig}
use Rattle.mx_store.specs.Objects.{after_all}
use Rattle.std.proofs.Common.{take}
use Rattle.mx_recovery.proofs.PlanLemmas.{deleted_next}
use Rattle.mx_recovery.proofs.deletes.deletes_of.Goals as goal

pub loop-path-preserved : goal.loop-path-preserved
loop-path-preserved c = record {
  plain = c.in_ok-add_delete.ensures.plain c.loop-path.invariant.plain;
  deletes = λ objects standing other.
      let so_far = c.loop-path.invariant.deletes objects standing other in
      deleted_next objects c.args.paths.now c.loop-path.path-index c.path-item.result c.loop-path.changes c.add_delete.new.changes c.loop-path.standing c.add_delete.new.standing c.loop-path-test.true c.path-item.is so_far
      (c.in_ok-add_delete.ensures.deletes (after_all objects (deletes objects (take c.loop-path.path-index c.args.paths.now)))
      (All-contains IsNoConfig c.args.paths.now c.path-item.result other (c.loop-path.path-index, c.loop-path-test.true, sym c.path-item.is)) so_far.1);
}
