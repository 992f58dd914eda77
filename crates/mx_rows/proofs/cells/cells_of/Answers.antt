use Rattle.std.proofs.Common.{◌≡◌, ◌++◌, ◌∷◌, [], ◌∙◌, List, ap, map, rules}
use Rattle.std.proofs.lemmas.List.{map-append}
use Rattle.std.proofs.lemmas.List.Elements.{All-push, All-same, recursion_from_All}
use Rattle.mx_schema.specs.declared.cell.Cell.{Cell}
use Rattle.mx_parquet.specs.declared.view.CellView.{CellView}
use Rattle.mx_parquet.specs.Fits.{IsEncoded}
use Rattle.mx_parquet.specs.Seen.{seen_cell}
use Rattle.mx_rows.proofs.CellLemmas.{length_cells, zip_at, cells_more}
use Rattle.mx_rows.proofs.cells.cells_of.Goals as goal

pub loop-place-init : goal.loop-place-init
loop-place-init c = record { same = length_cells c.args.columns.now c.args.elements.now c.requires; cells = search rules; encoded = search rules }

pub cell_of-requires : goal.cell_of-requires
cell_of-requires c = zip_at c.args.columns.now c.args.elements.now c.loop-place.place c.index-columns-place.result c.index-elements-place.result c.loop-place-test.true c.index-columns-place.is c.index-elements-place.is c.requires

pub loop-place-preserved : goal.loop-place-preserved
loop-place-preserved c =
    let before = c.loop-place.cells.items in
    let view = c.cell_of.result in
    let grown : map seen_cell c.push.new.self.items ≡ map seen_cell before ++ seen_cell view ∷ [] =
    ap (λ (views : List CellView). map seen_cell views) c.in_ok-push.ensures.items ∙ map-append seen_cell before (view ∷ []) in
    record {
      same = c.loop-place.invariant.same;
      cells = cells_more c.args.columns.now c.args.elements.now c.loop-place.place c.index-columns-place.result c.index-elements-place.result (map seen_cell before) (map seen_cell c.push.new.self.items) (seen_cell view) c.loop-place-test.true c.loop-place.invariant.same c.index-columns-place.is c.index-elements-place.is c.loop-place.invariant.cells c.cell_of.ensures.cell grown;
      encoded = All-same IsEncoded (map seen_cell c.push.new.self.items) (map seen_cell before ++ seen_cell view ∷ []) grown (All-push IsEncoded (map seen_cell before) (seen_cell view) c.loop-place.invariant.encoded c.cell_of.ensures.encoded);
    }

pub returns-clause-encoded : goal.returns-clause-encoded
returns-clause-encoded c = recursion_from_All IsEncoded (map seen_cell c.loop-place.cells.items) c.loop-place.invariant.encoded
