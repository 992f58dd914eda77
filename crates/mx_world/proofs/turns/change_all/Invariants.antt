use Rattle.std.proofs.Common.{◌≡◌, All, length}
use Rattle.std.specs.Prelude.{Result}
use Rattle.mx_world.specs.declared.error.ChangeError.{ChangeError}
use Rattle.mx_world.specs.Mirror.{IsPlain}
use Rattle.mx_world.specs.State.{Standing, standing}
use Rattle.mx_world.specs.Turns.{ChangesInTurn, MayMakeInTurn}
use Rattle.mx_world.proofs.turns.change_all.Given as goal

-- what the changes that are left do is what all of them do
abbrev pub invariant-loop-change : goal.invariant-loop-change
invariant-loop-change g l =
    let journal = g.S.Store.journal in
    record {
      plain : All IsPlain l.changes.items;
      may : MayMakeInTurn (journal l.world.store) l.world.doubt l.world.last l.changes.items;
      reads : g.S.Store.reads l.world.store ≡ g.S.Store.reads l.fn.world.store;
      faults : g.S.Store.faults l.world.store ≡ g.S.Store.faults l.fn.world.store;
      turns : (after : Standing) (result : Result Unit ChangeError) → ChangesInTurn l.changes.items (standing journal l.world) after result → ChangesInTurn l.fn.changes.items (standing journal l.fn.world) after result;
    }

abbrev pub decreases-loop-change : goal.decreases-loop-change
decreases-loop-change g l = length l.changes.items
