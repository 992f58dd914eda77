use Rattle.mx_folder.specs.Reading.{ReadsAsBase}
use Rattle.mx_open.proofs.ObjectLemmas.{asked_if}
use Rattle.mx_open.proofs.objects.reads_as_first_base.Goals as goal

pub returns : goal.returns
returns c objects is = asked_if objects c.args.context.now c.args.part c.is_base.result (ReadsAsBase c.args.bytes.now) is c.if-not-is_available.ensures c.is_base.ensures
