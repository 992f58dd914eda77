use Rattle.std.proofs.Common.{rules, of_calls}
use Rattle.std.proofs.lemmas.Fn.{always_returns_same}
use Rattle.mx_hfile.specs.declared.loading.Held.{Held}
use Rattle.mx_hfile.specs.Held.{is_upto}
use Rattle.mx_hfile.proofs.KeyLemmas.{upto_down}
use Rattle.mx_hfile.proofs.HeldLemmas.{parted, counted}
use Rattle.mx_hfile.proofs.loading.count_upto.Goals as goal

pub returns : goal.returns
returns c =
    let key = c.args.key.now in
    let point = c.partition_point.ensures.partitioned (λ (h : Held). is_upto key h.key) (always_returns_same _ _ _ (λ a r f k. search (rules, of_calls)))
    (parted (is_upto key) c.args.held.now c.requires (upto_down key)) in
    counted (is_upto key) c.args.held.now c.partition_point.result c.partition_point.ensures.bound point
