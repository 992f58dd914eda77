use Rattle.std.proofs.Common.{rules, ap, ◌∙◌, ◌∷◌, [], ◌++◌, length}
use Rattle.std.proofs.lemmas.Iterator.Adapters.{YieldsList-from_vec}
use Rattle.std.proofs.lemmas.Iterator.Consumers.{YieldsList-turn}
use Rattle.std.proofs.lemmas.List.Elements.{All-push, All-same}
use Rattle.serde_json.specs.View.{view}
use Rattle.mx_ask.specs.Rows.{value_data, IsRowValue}
use Rattle.mx_ask.proofs.ItemLemmas.{item_at, items_more}
use Rattle.mx_ask.proofs.rows.each_value.Goals as goal

pub loop-item-preserved : goal.loop-item-preserved
loop-item-preserved c = (
  items_more value_data c.loop-item.yielded c.loop-item.row c.push.new.self c.in_ok-value_in.field-0 c.in-Some.item
      c.loop-item.invariant.0 c.in_ok-value_in.ensures.ok.0 c.in_ok-push.ensures.ok,
  All-same IsRowValue c.push.new.self (c.loop-item.row ++ c.in_ok-value_in.field-0 ∷ []) c.in_ok-push.ensures.ok
      (All-push IsRowValue c.loop-item.row c.in_ok-value_in.field-0 c.loop-item.invariant.1 c.in_ok-value_in.ensures.ok.1),
)

pub returns-in_err-value_in-clause-not_an_ask : goal.returns-in_err-value_in-clause-not_an_ask
returns-in_err-value_in-clause-not_an_ask c =
    λ refused all named e.
    let turn = YieldsList-turn (YieldsList-from_vec c.args.items.items c.into_iter-item-iterator.ensures.into_iter_gives.0 (c.into_iter-item-iterator.ensures.into_iter_gives.1 ∙ c.args.items.ok.0)) c.loop-item.yielded c.loop-item.item-iterator c.loop-item.yielded_by c.next.result c.next.new.self c.in-Some.item c.in-Some.is c.next.ensures.steps in
    let one = item_at value_data IsRowValue c.args.items.items all (length c.loop-item.yielded) c.in-Some.item e named turn.0 in
    c.in_err-value_in.ensures.not_an_ask (search rules) one.0 one.1 (ap view turn.1 ∙ one.2)
