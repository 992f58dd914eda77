use Rattle.serde_json.specs.Data.{string}
use Rattle.serde_json.specs.View.{view}
use Rattle.mx_base.specs.Names.{IsPath}
use Rattle.mx_meta.proofs.JsonLemmas.{made_more, named_more}
use Rattle.mx_meta.proofs.paths.path_values.Goals as goal

pub loop-path-preserved : goal.loop-path-preserved
loop-path-preserved c = record {
  made = made_more view string c.loop-path.values.items c.push.new.self.items c.in_ok-path_value.field-0 c.args.paths.now c.loop-path.path-index c.path-item.result
      c.in_ok-push.ensures.items c.loop-path.invariant.made c.in_ok-path_value.ensures.value c.loop-path-test.true c.path-item.is;
  named = named_more IsPath c.args.paths.now c.loop-path.path-index c.path-item.result
      c.loop-path.invariant.named c.in_ok-path_value.ensures.names c.loop-path-test.true c.path-item.is;
}
