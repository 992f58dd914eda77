use Rattle.std.proofs.Common.{◌≡◌, IfSome, take}
use Rattle.mx_store.specs.Objects.{objects_of}
use Rattle.mx_open.specs.Deciding.{AreHeld}
use Rattle.mx_open.proofs.folder.read_objects.Given as goal

-- the objects so far are held
abbrev pub invariant-loop-path : goal.invariant-loop-path
invariant-loop-path g l =
    let journal = g.S.Store.journal in
    record {
      held : IfSome (journal l.fn.store) (λ j. AreHeld l.held (objects_of j) (take l.path-index l.paths) l.paths);
      same : journal l.store ≡ journal l.fn.store;
      faults : g.S.Store.faults l.store ≡ g.S.Store.faults l.fn.store;
    }
