use Rattle.std.proofs.Common.{sym, subst}
use Rattle.mx_merge.specs.Said.{IsKept}
use Rattle.mx_merge.proofs.RunLemmas.{kept-pushed}
use Rattle.mx_merge.proofs.known.run_after.Goals as goal

pub returns-in-Ok-clause-kept : goal.returns-in-Ok-clause-kept
returns-in-Ok-clause-kept c = subst IsKept (sym c.in_ok-with_payload-in-Ok.ensures) (kept-pushed c.args.run c.in-Ok.payload c.requires c.in-Ok.ensures.found.0)
