use Rattle.std.proofs.Common.{◌≡◌, take}
use Rattle.mx_world.specs.State.{standing}
use Rattle.mx_lookup.specs.Looking.{AreLogs, ReadsAll, log_paths}
use Rattle.mx_lookup.proofs.slice.logs_read.Given as goal

-- the logs of the instants so far were read
abbrev pub invariant-loop-at : goal.invariant-loop-at
invariant-loop-at g l = record {
  logs : AreLogs (g.S.Store.journal l.fn.table.store) (take l.at-index l.instants) l.logs.items;
  reads : ReadsAll (log_paths (take l.at-index l.instants)) (g.S.Store.reads l.fn.table.store) (g.S.Store.reads l.table.store);
  same : standing g.S.Store.journal l.table ≡ standing g.S.Store.journal l.fn.table;
  mirror : l.table.mirror ≡ l.fn.table.mirror;
  faults : g.S.Store.faults l.table.store ≡ g.S.Store.faults l.fn.table.store;
}
