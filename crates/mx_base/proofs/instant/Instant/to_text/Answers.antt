use Rattle.std.proofs.Common.{subst, sym}
use Rattle.std.specs.Str.{IsAscii}
use Rattle.mx_base.proofs.NameLemmas.{IsAscii-instant_text}
use Rattle.mx_base.proofs.instant.Instant.to_text.Goals as goal

pub ascii_text-requires : goal.ascii_text-requires
ascii_text-requires c = subst IsAscii (sym c.print-digits.ensures) (IsAscii-instant_text c.args.self)
