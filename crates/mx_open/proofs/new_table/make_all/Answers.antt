use Rattle.std.proofs.Common.{rules}
use Rattle.mx_open.specs.Init.{creation}
use Rattle.std.specs.Prelude.{map, drop, ◌+◌}
use Rattle.mx_open.proofs.InitLemmas.{make_ends, made_more, may_at, may_more}
use Rattle.mx_open.proofs.new_table.make_all.Goals as goal

pub returns-in_err-make-clause-makes : goal.returns-in_err-make-clause-makes
returns-in_err-make-clause-makes g c =
    make_ends (g.S.Store.journal c.args.store.now) (g.S.Store.journal c.loop-object.store) (g.S.Store.journal c.make.new.store) c.args.objects.now c.loop-object.object-index c.object-item.result
    (search rules) (search rules) c.loop-object.invariant.made c.make.result c.from_residual.result c.in_err-make.field-0.0 (search rules) (search rules) c.make.ensures.makes

pub loop-object-preserved : goal.loop-object-preserved
loop-object-preserved g c = record {
  made =
      made_more (g.S.Store.journal c.args.store.now) (g.S.Store.journal c.loop-object.store) (g.S.Store.journal c.make.new.store) c.args.objects.now c.loop-object.object-index c.object-item.result
      (search rules) (search rules) c.loop-object.invariant.made c.in_ok-make.ensures.makes;
  may =
      may_more (g.S.Store.journal c.loop-object.store) (g.S.Store.journal c.make.new.store) (creation c.object-item.result) (map creation (drop (c.loop-object.object-index + 1) c.args.objects.now))
      (may_at (g.S.Store.journal c.loop-object.store) c.args.objects.now c.loop-object.object-index c.object-item.result (search rules) (search rules) c.loop-object.invariant.may) c.in_ok-make.ensures.makes;
  faults = search rules;
}
