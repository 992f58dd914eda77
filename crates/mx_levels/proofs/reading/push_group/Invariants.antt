use Rattle.std.proofs.Common.{◌≡◌, ◌++◌, ◌-◌, ◌≤◌, take, length}
use Rattle.mx_levels.specs.Encoding.{bits}
use Rattle.mx_levels.proofs.reading.push_group.Given as goal

abbrev pub invariant-loop : goal.invariant-loop
invariant-loop l = record {
  pushed : take l.count (l.levels.items ++ bits (8 - l.counter) l.rest) ≡ take l.count (l.fn.levels.items ++ bits 8 l.group);
  within : length l.levels.items ≤ l.count;
}
