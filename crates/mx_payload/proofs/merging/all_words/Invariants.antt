use Rattle.std.proofs.Common.{◌≡◌, map}
use Rattle.mx_payload.specs.Union.{word_of}
use Rattle.mx_payload.proofs.merging.all_words.Given as goal

abbrev pub invariant-loop-name : goal.invariant-loop-name
invariant-loop-name l = l.words.items ≡ map word_of l.yielded
