use Rattle.std.proofs.Common.{◌≡◌, nat_eq, map}
use Rattle.std.specs.List.{filter, starts_with}
use Rattle.mx_store.proofs.memory.MemStore.listed.Given as goal

abbrev pub invariant-loop-path : goal.invariant-loop-path
invariant-loop-path l = l.paths ≡ filter (λ path. starts_with nat_eq path l.prefix) (map (λ path. path.now) l.yielded)
