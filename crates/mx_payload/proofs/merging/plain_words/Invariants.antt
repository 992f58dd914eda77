use Rattle.std.proofs.Common.{◌≡◌, map}
use Rattle.mx_payload.specs.Rules.{plain}
use Rattle.mx_payload.proofs.merging.plain_words.Given as goal

abbrev pub invariant-loop-name : goal.invariant-loop-name
invariant-loop-name l = l.words.items ≡ map plain l.yielded
