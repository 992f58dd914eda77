use Rattle.std.proofs.Common.{◌∙◌, sym}
use Rattle.serde_json.specs.View.{items_view}
use Rattle.mx_base.specs.Names.{is_path}
use Rattle.mx_meta.specs.Json.{each_in, text_in}
use Rattle.mx_meta.proofs.JsonLemmas.{each_in_more}
use Rattle.mx_meta.proofs.paths.each_path.Goals as goal

pub loop-item-preserved : goal.loop-item-preserved
loop-item-preserved c =
    each_in_more (text_in is_path) c.args.items.now (each_in (text_in is_path) (items_view c.args.items.now)) c.loop-item.paths c.push.new.self c.in-Some.path c.loop-item.item-index c.item-item.result
    c.loop-item.invariant (sym c.in-Some.is ∙ c.in_ok-path.ensures) c.in_ok-push-in-Some.ensures.ok c.loop-item-test.true c.item-item.is
