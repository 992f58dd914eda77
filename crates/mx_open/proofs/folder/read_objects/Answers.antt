use Rattle.std.proofs.Common.{rules, refl, ◌∙◌}
use Rattle.mx_open.proofs.HeldLemmas.{held_start, held_step}
use Rattle.mx_open.proofs.folder.read_objects.Goals as goal

pub loop-path-init : goal.loop-path-init
loop-path-init g c = record { held = held_start (g.S.Store.journal c.args.store.now) c.new-held.result c.args.paths.now c.new-held.ensures; same = refl; faults = refl }

pub loop-path-preserved : goal.loop-path-preserved
loop-path-preserved g c = record {
  held =
      held_step (g.S.Store.journal c.args.store.now) (g.S.Store.journal c.loop-path.store) c.loop-path.held c.read_object.new.held c.path-item.result c.args.paths.now c.loop-path.path-index c.loop-path.invariant.same
      (search rules) c.path-item.is c.loop-path.invariant.held c.in_ok-read_object.ensures.told;
  same = c.read_object.ensures.journal ∙ c.loop-path.invariant.same;
  faults = search rules;
}
