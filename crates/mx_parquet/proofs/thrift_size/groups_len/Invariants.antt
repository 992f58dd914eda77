use Rattle.std.proofs.Common.{◌≡◌, ◌+◌, ◌-◌, ◌*◌, ◌<◌, ◌≤◌, ◌^◌, length}
use Rattle.mx_avro.specs.Encoding.{groups}
use Rattle.mx_parquet.proofs.thrift_size.groups_len.Given as goal

abbrev pub invariant-loop-rest : goal.invariant-loop-rest
invariant-loop-rest l = record {
  some : 1 ≤ l.len;
  few : l.len ≤ 10;
  counted : l.len - 1 + length (groups (10 - l.len) l.rest) ≡ length (groups 9 l.number);
  fits : l.rest < 2 * 128 ^ (10 - l.len);
}

abbrev pub decreases-loop-rest : goal.decreases-loop-rest
decreases-loop-rest l = l.rest
