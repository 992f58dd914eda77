use Rattle.std.proofs.Common.{rules, lit<, ap, map, length}
use Rattle.std.proofs.lemmas.List.{length-map}
use Rattle.std.proofs.lemmas.Iterator.Splits.{YieldsList-from_str_split}
use Rattle.std.proofs.lemmas.Iterator.Consumers.{YieldsList-so_far, YieldsList-turn, YieldsList-at}
use Rattle.mx_schema.specs.Columns.{column_text}
use Rattle.mx_schema.proofs.ColumnLemmas.{AreColumns-none, stops}
use Rattle.mx_schema.proofs.schema.columns_of.Goals as goal

pub loop-piece-init : goal.loop-piece-init
loop-piece-init c = record { can = tt; ends = tt; columns = AreColumns-none c.new-columns.result c.new-columns.ensures; texts = ap (λ cs. map column_text cs) c.new-columns.ensures }

pub returns-in-None-2-clause-bad : goal.returns-in-None-2-clause-bad
returns-in-None-2-clause-bad c =
    let road = YieldsList-at c.into_iter-piece-iterator.ensures.into_iter_gives (YieldsList-from_str_split {s = c.split-piece-items.result} 44 c.args.text.now (lit< tt) c.split-piece-items.ensures.text c.split-piece-items.ensures.has_more c.split-piece-items.ensures.pattern) in
    let front = YieldsList-so_far road c.loop-piece.yielded _ c.loop-piece.yielded_by in
    let turn = YieldsList-turn road c.loop-piece.yielded _ c.loop-piece.yielded_by _ _ c.in-Some.piece c.in-Some.is c.next.ensures.steps in
    stops c.args.text.now c.loop-piece.columns c.len.result (length c.loop-piece.yielded) (map (λ piece. piece.now) c.loop-piece.yielded) c.in-Some.piece.now c.loop-piece.invariant.columns c.loop-piece.invariant.texts
    (length-map c.loop-piece.yielded (λ piece. piece.now)) c.len.ensures front turn.0 turn.1 (search rules)
