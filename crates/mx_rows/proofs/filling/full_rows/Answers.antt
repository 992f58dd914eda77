use Rattle.std.proofs.Common.{◌≡◌, ◌∷◌, [], ◌++◌, ◌∙◌, ap, rules, sym, subst}
use Rattle.std.proofs.lemmas.List.Elements.{All-push, All-same, recursion_from_All}
use Rattle.std.proofs.lemmas.List.{take_all}
use Rattle.std.specs.List.{AllByRecursion}
use Rattle.mx_parquet.specs.Fits.{FitsRow, HasTexts}
use Rattle.mx_rows.specs.Filled.{Where, full_rows}
use Rattle.mx_rows.proofs.FillLemmas.{rows_fit, rows_more}
use Rattle.mx_rows.proofs.filling.full_rows.Goals as goal

pub loop-number-preserved : goal.loop-number-preserved
loop-number-preserved c = (
  All-same HasTexts c.push.new.self.items (c.loop-number.full.items ++ c.in_ok-row.row ∷ []) c.in_ok-push.ensures.items
      (All-push HasTexts c.loop-number.full.items c.in_ok-row.row c.loop-number.invariant.0 c.in_ok-row.ensures.texts),
  rows_more c.args.schema.now (record { at = c.args.place.now.at; number = c.args.place.now.number; partition = c.args.place.now.partition.now; name = c.args.place.now.name.now }) c.args.rows.now c.loop-number.number c.index-rows-number.result c.loop-number.full.items c.push.new.self.items c.in_ok-row.row c.loop-number-test.true c.index-rows-number.is c.loop-number.invariant.1 c.in_ok-row.ensures.row c.in_ok-push.ensures.items,
)

pub returns-clause-fit : goal.returns-clause-fit
returns-clause-fit c =
    let place : Where = record { at = c.args.place.now.at; number = c.args.place.now.number; partition = c.args.place.now.partition.now; name = c.args.place.now.name.now } in
    let all : c.loop-number.full.items ≡ full_rows c.args.schema.now place c.args.rows.now =
    c.loop-number.invariant.1 ∙ ap (full_rows c.args.schema.now place) (take_all c.loop-number.number c.args.rows.now (search rules)) in
    subst (AllByRecursion (FitsRow c.args.schema.now)) (sym all) (rows_fit c.args.schema.now place 0 c.args.rows.now c.requires.fit)

pub returns-clause-texts : goal.returns-clause-texts
returns-clause-texts c = recursion_from_All HasTexts c.loop-number.full.items c.loop-number.invariant.0
