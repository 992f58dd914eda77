use Rattle.std.proofs.Common.{◌≡◌, ◌-◌, ◌^◌, ◌<◌, ◌≤◌, drop}
use Rattle.mx_avro.specs.Decoding.{groups_at}
use Rattle.mx_avro.proofs.Loop.{so_far}
use Rattle.mx_avro.proofs.reading.groups_of.Given as goal

abbrev pub invariant-loop-index : goal.invariant-loop-index
invariant-loop-index l = record {
  count : l.index ≤ 9;
  scale_is : l.scale ≡ 128 ^ l.index;
  below : l.number < l.scale;
  read : so_far l.at l.number l.scale l.index (groups_at l.at (9 - l.index) (drop l.index l.rest)) ≡ groups_at l.at 9 l.rest;
}
