use Rattle.mx_open.proofs.ObjectLemmas.{object_if}
use Rattle.mx_open.proofs.objects.is_object.Goals as goal

pub returns-in-Some : goal.returns-in-Some
returns-in-Some c objects is = object_if objects c.args.path.now c.args.bytes.now c.in-Some.name c.in-Some.ensures.found.0 c.in-Some.ensures.found.1 c.reads.result (c.reads.ensures objects is)
