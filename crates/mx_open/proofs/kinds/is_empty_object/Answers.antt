use Rattle.std.proofs.Common.{◌∙◌, sym}
use Rattle.serde_json.specs.View.{view}
use Rattle.mx_meta.proofs.FieldLemmas.{object_of-none}
use Rattle.mx_open.proofs.KindLemmas.{empty_if}
use Rattle.mx_open.proofs.kinds.is_empty_object.Goals as goal

pub returns-in-Ok : goal.returns-in-Ok
returns-in-Ok c = empty_if c.args.bytes.now (view c.in-Ok.value) c.has_no_members.result c.in-Ok.ensures.ok.0 c.in-Ok.ensures.ok.1 c.has_no_members.ensures

pub returns-in-Err-2 : goal.returns-in-Err-2
returns-in-Err-2 c empty = absurd (cc (sym (object_of-none c.args.bytes.now (c.in-Err.ensures.err (λ memory. absurd (cc (c.is_memory.ensures.1 memory, c.if-is_memory.false))))) ∙ empty))
