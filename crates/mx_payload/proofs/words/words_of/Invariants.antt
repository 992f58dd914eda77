use Rattle.std.proofs.Common.{◌≡◌, ◌-◌, None}
use Rattle.mx_payload.specs.Decoding.{words_in, last_name}
use Rattle.mx_payload.proofs.Loop.{with_front}
use Rattle.mx_payload.proofs.words.words_of.Given as goal

abbrev pub invariant-loop : goal.invariant-loop
invariant-loop l = with_front l.words.items (words_in l.plain (last_name l.words.items) (l.count - l.counter) l.rest) ≡ words_in l.plain None l.count l.bytes
