use Rattle.std.specs.Prelude.{None}
use Rattle.mx_recovery.proofs.opening_tests.a_store_that_tells_nothing_is_opened_alike.Given as goal

abbrev pub ghosts-opened_untold : goal.ghosts-opened_untold
ghosts-opened_untold g a = record { opening = None; count = 0; moment = 20250101000000000 }
