use Rattle.mx_open.proofs.KindLemmas.{files_read}
use Rattle.mx_open.proofs.kinds.lists_data_files.Goals as goal

pub returns-in-Ok : goal.returns-in-Ok
returns-in-Ok c = files_read c.are_data_files_of.result c.args.at c.args.bytes.now c.in-Ok.list c.as_slice.result.now c.in-Ok.ensures.ok c.as_slice.ensures c.are_data_files_of.ensures
