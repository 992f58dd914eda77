use Rattle.std.proofs.Common.{subst, sym}
use Rattle.std.specs.Str.{IsAscii}
use Rattle.mx_base.proofs.NameLemmas.{IsAscii-file_id}
use Rattle.mx_base.proofs.file_id.FileId.to_text.Goals as goal

pub ascii_text-requires : goal.ascii_text-requires
ascii_text-requires c = subst IsAscii (sym c.print-bytes.ensures.value) (IsAscii-file_id c.args.self.now c.print-bytes.ensures.grammar)
