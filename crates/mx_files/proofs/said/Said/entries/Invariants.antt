use Rattle.std.proofs.Common.{◌≡◌, map, All}
use Rattle.mx_payload.specs.Rules.{IsWellFormed}
use Rattle.mx_files.specs.Said.{payload_of_key, entry_of}
use Rattle.mx_files.proofs.said.Said.entries.Given as goal

abbrev pub invariant-loop-key : goal.invariant-loop-key
invariant-loop-key l = record {
  entries : l.entries ≡ map (λ e. entry_of (e.0.now, e.1.now)) l.yielded;
  fits : All (λ e. IsWellFormed (payload_of_key (e.0.now, e.1.now))) l.yielded;
}
