use Rattle.std.proofs.Common.{arith, ap, length}
use Rattle.mx_base.specs.declared.entry.Entry.{Entry}
use Rattle.mx_hfile.proofs.DividingLemmas.{value_within}
use Rattle.mx_hfile.proofs.writing.put_entries.Goals as goal

pub put_entry-requires-clause-value : goal.put_entry-requires-clause-value
put_entry-requires-clause-value c = omega (arith, value_within c.args.entries.now c.loop-entry.entry-index c.entry-item.result c.loop-entry-test.true, ap (λ (e : Entry). length e.value) c.entry-item.is, c.requires.room)
