use Rattle.std.proofs.Common.{◌<◌, List, arith, ap, subst, ◌∙◌, map}
use Rattle.mx_hfile.specs.Encoding.{Place}
use Rattle.mx_hfile.specs.Held.{held_place, is_upto, IsCountOf}
use Rattle.mx_hfile.proofs.KeyLemmas.{last_upto}
use Rattle.mx_hfile.proofs.loading.Index.block_for.Goals as goal

pub returns-clause-found : goal.returns-clause-found
returns-clause-found c =
    let key = c.args.key.now in
    let count = c.count_upto-count.result in
    let places = ap (map held_place) c.as_slice.ensures.value ∙ c.self.view_is in
    let is = subst (λ (ps : List Place). IsCountOf (is_upto key) ps count) places c.count_upto-count.ensures in
    let some : 0 < count = omega (arith, c.if-count-eq0.false) in
    last_upto c.args.self.now key count is some
