use Rattle.std.proofs.Common.{◌≡◌, ◌++◌, length, take, map}
use Rattle.std.specs.List.{flat_map}
use Rattle.mx_payload.specs.Rules.{plain}
use Rattle.mx_payload.specs.Encoding.{long, word}
use Rattle.mx_payload.proofs.writing.put_names.Given as goal

abbrev pub invariant-loop-name : goal.invariant-loop-name
invariant-loop-name l = l.out.items ≡ l.fn.out.items ++ long (length l.names) ++ flat_map word (map plain (take l.name-index l.names))
