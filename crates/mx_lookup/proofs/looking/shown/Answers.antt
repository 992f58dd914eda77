use Rattle.std.proofs.Common.{◌∙◌, sym}
use Rattle.mx_merge.specs.Merged.{slice_entries, values_on_key}
use Rattle.mx_lookup.proofs.ReadLemmas.{none_bad}
use Rattle.mx_lookup.proofs.looking.shown.Goals as goal

pub returns-in-Err-BadPayload : goal.returns-in-Err-BadPayload
returns-in-Err-BadPayload c read =
    absurd (cc (sym (none_bad (values_on_key c.args.key.now (slice_entries c.args.base.now c.args.logs.now)) read) ∙ rw c.in-Err-BadPayload.field-0-is at c.in-Err-BadPayload.ensures.shows))
