use Rattle.std.specs.Prelude.{Some}
use Rattle.mx_recovery.proofs.tests.opened.Given as goal

abbrev pub ghosts-opened_as : goal.ghosts-opened_as
ghosts-opened_as a = record { opening = Some a.store.changes; count = 0; moment = a.at }
