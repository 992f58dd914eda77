use Rattle.std.proofs.Common.{rules}
use Rattle.mx_open.proofs.InitLemmas.{no_meta}
use Rattle.mx_open.proofs.new_table.bases_text.Goals as goal

pub unreachable-requires : goal.unreachable-requires
unreachable-requires c = no_meta c.in_ok-meta.field-0 c.in_ok-vec.field-0.items c.start.result (search rules) (search rules) c.in-None.is
