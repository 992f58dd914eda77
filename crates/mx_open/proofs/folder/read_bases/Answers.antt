use Rattle.std.proofs.Common.{◌∙◌}
use Rattle.mx_open.proofs.OpeningLemmas.{bases_read}
use Rattle.mx_open.proofs.folder.read_bases.Goals as goal

pub returns-in-Ok : goal.returns-in-Ok
returns-in-Ok c objects stands = bases_read objects c.args.bytes.now c.in-Ok.meta c.in_ok-copied-in-Ok.field-0 stands c.in-Ok.ensures.ok (c.in_ok-copied-in-Ok.ensures ∙ c.bases.ensures.value)
