use Rattle.serde_json.specs.View.{view}
use Rattle.std.proofs.Common.{◌∙◌, sym}
use Rattle.mx_meta.proofs.FieldLemmas.{object_of-value, object_of-other, object_of-none}
use Rattle.mx_meta.proofs.checking.read_object.Goals as goal

pub returns-then-is_object-clause-ok : goal.returns-then-is_object-clause-ok
returns-then-is_object-clause-ok c = object_of-value c.args.bytes.now (view c.in-Ok.value) c.in-Ok.ensures.ok.0 c.in-Ok.ensures.ok.1 (sym c.is_object.ensures ∙ c.if-is_object.true)

pub returns-else-is_object-clause-only : goal.returns-else-is_object-clause-only
returns-else-is_object-clause-only c = rw c.no_object.ensures (object_of-other c.args.bytes.now (view c.in-Ok.value) c.in-Ok.ensures.ok.0 c.in-Ok.ensures.ok.1 (sym c.is_object.ensures ∙ c.if-is_object.false))

pub returns-in-Err-2-clause-only : goal.returns-in-Err-2-clause-only
returns-in-Err-2-clause-only c = rw c.no_object-in-Err-2.ensures (object_of-none c.args.bytes.now (c.in-Err.ensures.err (λ memory. absurd (cc (c.is_memory.ensures.1 memory, c.if-is_memory.false)))))
