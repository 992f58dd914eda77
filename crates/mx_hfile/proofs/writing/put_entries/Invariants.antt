use Rattle.std.proofs.Common.{◌≡◌, ◌++◌, take}
use Rattle.mx_hfile.specs.Encoding.{body}
use Rattle.mx_hfile.proofs.writing.put_entries.Given as goal

abbrev pub invariant-loop-entry : goal.invariant-loop-entry
invariant-loop-entry l = l.out.items ≡ l.fn.out.items ++ body (take l.entry-index l.entries)
