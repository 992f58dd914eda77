use Rattle.std.proofs.Common.{◌≡◌, ◌<◌, ◌^◌, take}
use Rattle.mx_base.specs.Digits.{digits}
use Rattle.mx_base.proofs.digits.read_digits.Given as goal

abbrev pub invariant-loop-byte : goal.invariant-loop-byte
invariant-loop-byte l = record { read : digits l.byte-index l.number ≡ take l.byte-index l.bytes; small : l.number < 10 ^ l.byte-index }
