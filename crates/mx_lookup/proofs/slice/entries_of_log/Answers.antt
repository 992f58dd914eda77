use Rattle.std.proofs.Common.{◌∙◌, sym, rules, ◌≢◌}
use Rattle.mx_lookup.proofs.ReadLemmas.{log_read, log_other, log_bad}
use Rattle.mx_lookup.proofs.slice.entries_of_log.Goals as goal

pub returns-then-ne : goal.returns-then-ne
returns-then-ne c =
    let other : c.in-Ok.found ≢ c.args.at = search rules in
    c.new.ensures ∙ sym (log_other c.args.at c.in-Ok.found c.args.bytes.now c.in-Ok.entries.items c.in-Ok.ensures'.exact other)

pub returns-else-ne : goal.returns-else-ne
returns-else-ne c = c.from_vec.ensures ∙ sym (log_read c.args.at _ c.args.bytes.now _ c.in-Ok.ensures.exact (search rules))

pub returns-in-Err-BadLog : goal.returns-in-Err-BadLog
returns-in-Err-BadLog c = c.new-in-Err-BadLog.ensures ∙ sym (log_bad c.args.at c.in-Err-BadLog.field-0-0 c.args.bytes.now (rw c.in-Err-BadLog.field-0-is at c.in-Err-BadLog.ensures.exact))
