use Rattle.std.proofs.Common.{◌<◌, length, arith, ap, sym}
use Rattle.mx_hfile.proofs.DividingLemmas.{length-map}
use Rattle.mx_hfile.specs.Held.{held_place}
use Rattle.mx_hfile.proofs.HeldLemmas.{held_at, held_within}
use Rattle.mx_hfile.proofs.loading.Index.place.Goals as goal

pub returns-clause-place : goal.returns-clause-place
returns-clause-place c =
    let held = c.self.inside.blocks.items in
    let there : c.args.block < length held = omega (arith, c.requires, ap length c.self.view_is, length-map held_place held) in
    rw (sym c.self.view_is) (held_at held c.args.block c.index-held.result.now c.index-held.result.now c.self.invariant.follow there c.index-held.ensures)

pub returns-clause-within : goal.returns-clause-within
returns-clause-within c =
    let held = c.self.inside.blocks.items in
    let there : c.args.block < length held = omega (arith, c.requires, ap length c.self.view_is, length-map held_place held) in
    let within = held_within held c.args.block c.index-held.result.now c.index-held.result.now c.self.invariant.follow there c.index-held.ensures in
    omega (arith, within, c.self.invariant.room)
