use Rattle.std.proofs.Common.{◌<◌, ◌^◌, List, length, arith, ap, subst, ◌∙◌, map, []}
use Rattle.mx_hfile.specs.Encoding.{Place}
use Rattle.mx_hfile.specs.Ranges.{KeysRise}
use Rattle.mx_hfile.specs.Held.{held_place, is_upto, is_through, IsCountOf}
use Rattle.mx_hfile.proofs.KeyLemmas.{hold_within, within_hold}
use Rattle.mx_hfile.proofs.loading.Index.blocks_with.Goals as goal

pub returns-clause-exact : goal.returns-clause-exact
returns-clause-exact c =
    let prefix = c.args.prefix.now in
    let upto = c.count_upto-upto.result in
    let end = c.count_through-end.result in
    let places = ap (map held_place) c.as_slice.ensures.value ∙ c.self.view_is in
    let places' = ap (map held_place) c.as_slice-2.ensures.value ∙ c.self.view_is in
    let u = subst (λ (ps : List Place). IsCountOf (is_upto prefix) ps upto) places c.count_upto-upto.ensures in
    let t = subst (λ (ps : List Place). IsCountOf (is_through prefix) ps end) places' c.count_through-end.ensures in
    let keys : KeysRise [] c.args.self.now = subst (KeysRise []) c.self.view_is c.self.invariant.keys in
    let fits : length prefix < 2 ^ 16 = omega arith in
    λ block. rw c.saturating_sub.ensures (hold_within c.args.self.now prefix upto end block u t, within_hold c.args.self.now prefix upto end block keys fits u t)
