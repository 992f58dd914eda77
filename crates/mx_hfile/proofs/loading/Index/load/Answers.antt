use Rattle.std.proofs.Common.{◌≡◌, ◌∙◌, length, map, false, eqb, ap, arith}
use Rattle.std.proofs.lemmas.Bool.Decides.{nat_tests}
use Rattle.mx_hfile.specs.Seen.{seen}
use Rattle.mx_lists.proofs.Codecs.{IsBytes}
use Rattle.mx_hfile.proofs.PlaceLemmas.{index_takes}
use Rattle.mx_hfile.proofs.LoadLemmas.{bad_footer, bad_index_len, bad_index_alone, loaded, good-total, is_index}
use Rattle.mx_hfile.proofs.loading.Index.load.Goals as goal

pub returns-in-Err : goal.returns-in-Err
returns-in-Err c = rw c.before-in-Err.ensures.place (bad_footer c.in-Err.fault c.args.trailer.now c.args.index.now c.in-Err.ensures.read)

pub returns-then-index-footer : goal.returns-then-index-footer
returns-then-index-footer c =
    let ne : eqb (length c.args.index.now) c.in-Ok.footer.index_len ≡ false = grind (arith, nat_tests) in
    bad_index_len c.in-Ok.footer c.args.trailer.now c.args.index.now c.in-Ok.ensures.read ne

pub returns-in-Err-index_of : goal.returns-in-Err-index_of
returns-in-Err-index_of c =
    rw c.before-in-Err-index_of.ensures.place (bad_index_alone c.in-Err-index_of.fault c.in-Ok.footer c.args.trailer.now c.args.index.now c.in-Ok.ensures.read c.if-index-footer.false c.in-Err-index_of.ensures)

pub held_of-requires : goal.held_of-requires
held_of-requires c =
    let footer = c.in-Ok.footer in
    let ps = map seen c.in-Ok-index_of.listings.items in
    let fits : IsBytes c.args.index.now = λ i. omega (arith, c.type_inv.index i) in
    let good = index_takes footer.block_count footer.offset c.args.index.now ps fits c.in-Ok-index_of.ensures in
    let sum = good-total footer.offset ps good.1.1 in
    rw c.deref.ensures.value (omega (arith, sum, c.in-Ok.ensures.room))

pub invariant_of-result : goal.invariant_of-result
invariant_of-result c =
    let footer = c.in-Ok.footer in
    let ps = map seen c.in-Ok-index_of.listings.items in
    let fits : IsBytes c.args.index.now = λ i. omega (arith, c.type_inv.index i) in
    let good = index_takes footer.block_count footer.offset c.args.index.now ps fits c.in-Ok-index_of.ensures in
    is_index footer.offset footer.block_count ps c.in_ok-held_of.field-0.items good.1.1 (omega (arith, c.in-Ok.ensures.room)) good.1.0 c.in-Ok.ensures.count (c.in_ok-held_of.ensures.places ∙ ap (map seen) c.deref.ensures.value) c.in_ok-held_of.ensures.follow

pub returns : goal.returns
returns c =
    let footer = c.in-Ok.footer in
    let ps = map seen c.in-Ok-index_of.listings.items in
    let places = c.in_ok-held_of.ensures.places ∙ ap (map seen) c.deref.ensures.value in
    rw places (loaded footer c.args.trailer.now c.args.index.now ps c.in-Ok.ensures.read c.if-index-footer.false c.in-Ok-index_of.ensures)
