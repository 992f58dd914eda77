use Rattle.std.proofs.Common.{◌≡◌, map}
use Rattle.mx_payload.proofs.words.names_of.Given as goal

abbrev pub invariant-loop-word : goal.invariant-loop-word
invariant-loop-word l = l.names.items ≡ map (λ w. w.name) l.yielded
