use Rattle.std.proofs.Common.{◌∙◌, sym}
use Rattle.mx_lookup.proofs.ReadLemmas.{base_read, base_bad}
use Rattle.mx_lookup.proofs.slice.entries_of_base.Goals as goal

pub returns-in-Ok : goal.returns-in-Ok
returns-in-Ok c = c.from_vec.ensures ∙ sym (base_read c.args.bytes.now c.in-Ok.entries.items c.in-Ok.ensures.exact)

pub returns-in-Err-BadHFile : goal.returns-in-Err-BadHFile
returns-in-Err-BadHFile c = c.new.ensures ∙ sym (base_bad c.args.bytes.now c.in-Err-BadHFile.field-0-0 (rw c.in-Err-BadHFile.field-0-is at c.in-Err-BadHFile.ensures.exact))
