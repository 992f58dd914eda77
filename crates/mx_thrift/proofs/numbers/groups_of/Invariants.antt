use Rattle.std.proofs.Common.{◌≡◌, ◌-◌, ◌^◌, ◌<◌, ◌≤◌, length, drop}
use Rattle.mx_thrift.specs.Decoding.{groups_in}
use Rattle.mx_thrift.proofs.Groups.{so_far}
use Rattle.mx_thrift.proofs.numbers.groups_of.Given as goal

abbrev pub invariant-loop-index : goal.invariant-loop-index
invariant-loop-index l = record {
  count : l.index ≤ 9;
  scale_is : l.scale ≡ 128 ^ l.index;
  below : l.number < l.scale;
  read : so_far l.number l.scale (groups_in (length l.bytes) (10 - l.index) (drop l.index l.bytes)) ≡ groups_in (length l.bytes) 10 l.bytes;
}
