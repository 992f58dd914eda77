use Rattle.std.proofs.Common.{◌≡◌, ◌≤◌, ℕ, length, take, drop}
use Rattle.mx_store.specs.Streams.{added}
use Rattle.mx_lines.proofs.whole.write_all.Given as goal

abbrev pub invariant-loop-rest : goal.invariant-loop-rest
invariant-loop-rest g l =
    (k : ℕ) × (l.rest ≡ drop k l.bytes) × (k ≤ length l.bytes) × (g.O.Sink.written l.sink ≡ added (g.O.Sink.written l.fn.sink) (take k l.bytes)) × (g.O.Sink.faults l.sink ≡ g.O.Sink.faults l.fn.sink)

abbrev pub decreases-loop-rest : goal.decreases-loop-rest
decreases-loop-rest g l = length l.rest
