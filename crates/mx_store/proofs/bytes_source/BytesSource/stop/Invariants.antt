use Rattle.std.proofs.Common.{◌≡◌, ◌<◌, ◌≤◌, length, take, min, nat_lt}
use Rattle.std.specs.Prelude.{filter, fold}
use Rattle.mx_store.proofs.bytes_source.BytesSource.stop.Given as goal

abbrev pub invariant-loop-cut : goal.invariant-loop-cut
invariant-loop-cut l = record {
  value : l.stop ≡ fold min (length l.self-inside.bytes.items) (filter (λ cut. nat_lt l.self-inside.at cut) (take l.cut-index l.cut-items));
  low : l.self-inside.at ≤ l.stop;
  high : l.stop ≤ length l.self-inside.bytes.items;
  moves : l.self-inside.at < length l.self-inside.bytes.items → l.self-inside.at < l.stop;
}
