use Rattle.std.proofs.Common.{◌≡◌, ◌∙◌, ◌+◌, ◌<◌, ap, arith, drop, length, List, refl, sym}
use Rattle.std.proofs.lemmas.List.{drop-drop}
use Rattle.std.proofs.lemmas.Option.{slice_get_read}
use Rattle.mx_parquet.specs.declared.row.FullRow.{FullRow}
use Rattle.mx_parquet.specs.Columns.{cells_at}
use Rattle.mx_parquet.specs.Pages.{levels}
use Rattle.mx_parquet.proofs.Pages.{levels_step}
use Rattle.mx_parquet.proofs.page_size.levels_len.Goals as goal

pub loop-from-preserved : goal.loop-from-preserved
loop-from-preserved c =
    let l = c.loop-from in
    let rows = c.args.rows.now in
    let rest = c.split_at.result.1.now in
    let count = c.leading-count.result in
    let some : 0 < length rest = omega (arith, c.split_at.ensures.back_len, c.loop-from-test.true) in
    let first = sym (slice_get_read rest (length rest) 0 c.index-rest-0.result refl some c.index-rest-0.is) in
    let s = levels_step c.args.place count c.is_present.result c.index-rest-0.result rest (drop count rest) first c.is_present.ensures c.leading-count.ensures.count refl in
    let size = λ (r : List FullRow). length (levels (cells_at c.args.place r)) in
    let behind : size (drop (l.from + count) rows) ≡ size (drop count rest) = ap size (sym (ap (drop count) c.split_at.ensures.back ∙ drop-drop count l.from rows)) in
    let whole : size (drop l.from rows) ≡ size rest = ap size (sym c.split_at.ensures.back) in
    record {
      bytes = omega (arith, s.1, behind, whole, l.invariant.bytes, c.groups_len.ensures.value, c.saturating_add-len.ensures);
      fits = omega (arith, c.saturating_add-len.ensures);
      within = omega (arith, c.leading-count.ensures.within, c.split_at.ensures.back_len, l.invariant.within);
    }
