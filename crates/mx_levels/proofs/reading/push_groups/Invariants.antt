use Rattle.std.proofs.Common.{◌≡◌, ◌++◌, ◌≤◌, take, length}
use Rattle.std.specs.List.{flat_map}
use Rattle.mx_levels.specs.Encoding.{bits}
use Rattle.mx_levels.proofs.reading.push_groups.Given as goal

abbrev pub invariant-loop-group : goal.invariant-loop-group
invariant-loop-group l = record {
  pushed : l.levels.items ≡ take l.count (l.fn.levels.items ++ flat_map (bits 8) (take l.group-index l.groups));
  within : length l.levels.items ≤ l.count;
}
