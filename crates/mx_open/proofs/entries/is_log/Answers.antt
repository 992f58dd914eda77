use Rattle.std.proofs.Common.{◌≢◌, Bool, IfOk, List, rules, subst}
use Rattle.mx_base.specs.declared.entry.Entry.{Entry}
use Rattle.mx_folder.specs.Reading.{SpellPayloads}
use Rattle.mx_open.specs.Deciding.{Decides}
use Rattle.mx_open.proofs.EntryLemmas.{log_if, other_log, no_log}
use Rattle.mx_open.proofs.entries.is_log.Goals as goal

pub returns-then-ne : goal.returns-then-ne
returns-then-ne c =
    let other : c.in-Ok.found ≢ c.args.at = search rules in
    other_log c.args.at c.in-Ok.found c.args.bytes.now c.in-Ok.entries.items c.in-Ok.ensures'.exact other

pub returns-else-ne : goal.returns-else-ne
returns-else-ne c =
    log_if c.args.at _ c.args.bytes.now _ c.have_payloads.result c.in-Ok.ensures.exact (search rules)
    (subst (λ (es : List Entry). IfOk c.have_payloads.result (λ (b : Bool). Decides b (SpellPayloads es))) c.as_slice.ensures.value c.have_payloads.ensures)

pub returns-in-Err-BadLog : goal.returns-in-Err-BadLog
returns-in-Err-BadLog c = no_log c.args.at c.in-Err-BadLog.field-0-0 c.args.bytes.now (rw c.in-Err-BadLog.field-0-is at c.in-Err-BadLog.ensures.exact)
