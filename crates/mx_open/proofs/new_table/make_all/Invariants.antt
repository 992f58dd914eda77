use Rattle.std.proofs.Common.{◌≡◌, map, take, drop}
use Rattle.mx_open.specs.Init.{MayMake, with_changes, creation}
use Rattle.mx_open.proofs.new_table.make_all.Given as goal

-- the objects so far were made, and the others may be
abbrev pub invariant-loop-object : goal.invariant-loop-object
invariant-loop-object g l =
    let journal = g.S.Store.journal in
    record {
      made : journal l.store ≡ with_changes (journal l.fn.store) (map creation (take l.object-index l.objects));
      may : MayMake (journal l.store) (map creation (drop l.object-index l.objects));
      faults : g.S.Store.faults l.store ≡ g.S.Store.faults l.fn.store;
    }
