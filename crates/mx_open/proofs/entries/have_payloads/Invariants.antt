use Rattle.std.proofs.Common.{All, take}
use Rattle.mx_base.specs.declared.entry.Entry.{Entry}
use Rattle.mx_merge.specs.Merged.{IsRead}
use Rattle.mx_open.proofs.entries.have_payloads.Given as goal

-- the values so far are payloads
abbrev pub invariant-loop-entry : goal.invariant-loop-entry
invariant-loop-entry l = All (λ (e : Entry). IsRead e.value) (take l.entry-index l.entries)
