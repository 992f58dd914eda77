use Rattle.mx_folder.proofs.BeginLemmas.{empty_length}
use Rattle.mx_open.proofs.new_table.base_bytes.Goals as goal

pub write-requires-clause-room : goal.write-requires-clause-room
write-requires-clause-room c = empty_length
