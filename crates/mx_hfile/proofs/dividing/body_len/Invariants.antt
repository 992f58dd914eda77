use Rattle.std.proofs.Common.{◌≡◌, ◌-◌, ◌^◌, min, length, take}
use Rattle.mx_hfile.specs.Encoding.{body}
use Rattle.mx_hfile.proofs.dividing.body_len.Given as goal

abbrev pub invariant-loop-entry : goal.invariant-loop-entry
invariant-loop-entry l = l.len ≡ min (length (body (take l.entry-index l.entries))) (2 ^ 64 - 1)
