use Rattle.std.proofs.Common.{◌≡◌, ◌-◌, ◌*◌, ◌^◌, ◌<◌, ◌++◌}
use Rattle.mx_avro.specs.Encoding.{groups}
use Rattle.mx_avro.proofs.writing.put_groups.Given as goal

abbrev pub invariant-loop : goal.invariant-loop
invariant-loop l = record {
  spelled : l.out.items ++ groups (9 - l.counter) l.rest ≡ l.fn.out.items ++ groups 9 l.number;
  fits : l.rest < 2 * 128 ^ (9 - l.counter);
}
