use Rattle.std.proofs.Common.{Bool, IfOk, List, subst}
use Rattle.mx_base.specs.declared.entry.Entry.{Entry}
use Rattle.mx_folder.specs.Reading.{SpellPayloads}
use Rattle.mx_open.specs.Deciding.{Decides}
use Rattle.mx_open.proofs.EntryLemmas.{base_if, no_base}
use Rattle.mx_open.proofs.entries.is_base.Goals as goal

pub returns-in-Ok : goal.returns-in-Ok
returns-in-Ok c =
    base_if c.args.bytes.now c.in-Ok.entries.items c.have_payloads.result c.in-Ok.ensures.exact
    (subst (λ (es : List Entry). IfOk c.have_payloads.result (λ (b : Bool). Decides b (SpellPayloads es))) c.as_slice.ensures.value c.have_payloads.ensures)

pub returns-in-Err-BadHFile : goal.returns-in-Err-BadHFile
returns-in-Err-BadHFile c = no_base c.args.bytes.now c.in-Err-BadHFile.field-0-0 (rw c.in-Err-BadHFile.field-0-is at c.in-Err-BadHFile.ensures.exact)
