use Rattle.mx_folder.specs.Reading.{ReadsAsLog}
use Rattle.mx_open.proofs.ObjectLemmas.{asked_if}
use Rattle.mx_open.proofs.objects.reads_as_log.Goals as goal

pub returns : goal.returns
returns c objects is = asked_if objects c.args.context.now c.args.part c.is_log.result (ReadsAsLog c.args.at c.args.bytes.now) is c.if-not-is_available.ensures c.is_log.ensures
