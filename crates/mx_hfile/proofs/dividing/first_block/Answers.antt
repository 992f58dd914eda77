use Rattle.std.proofs.Common.{◌≤◌, ◌∙◌, ◌∷◌, List, length, take, arith, refl, sym, ap, [], drop}
use Rattle.mx_base.specs.declared.entry.Entry.{Entry}
use Rattle.mx_hfile.specs.Encoding.{body, blocks_of}
use Rattle.mx_hfile.proofs.DividingLemmas.{begins, cut_here, no_cut}
use Rattle.mx_hfile.proofs.dividing.first_block.Goals as goal

abbrev none : Entry
none = record { key = []; value = [] }

pub loop-count-init : goal.loop-count-init
loop-count-init c = record { blocks = begins c.args.entries.now; len = refl }

pub returns-then-len-clause-cut : goal.returns-then-len-clause-cut
returns-then-len-clause-cut c =
    let l = c.loop-count in
    let full : 16_384 ≤ length (body (take l.count c.args.entries.now)) = omega arith in
    let cut = cut_here c.args.entries.now l.count none (omega arith) full l.invariant.blocks in
    cut ∙ ap (λ (b : List Entry). b ∷ blocks_of (drop l.count c.args.entries.now)) (sym c.split_at.ensures.front)
    ∙ ap (λ (r : List Entry). c.split_at.result.0.now ∷ blocks_of r) (sym c.split_at.ensures.back)

pub returns-clause-cut : goal.returns-clause-cut
returns-clause-cut c =
    let l = c.loop-count in
    no_cut c.args.entries.now l.count (omega arith) (omega arith) l.invariant.blocks
