use Rattle.std.proofs.Common.{sym, ◌∙◌}
use Rattle.mx_ask.proofs.AskLemmas.{file_data-id}
use Rattle.mx_ask.proofs.reading.file_in.Goals as goal

pub returns-in_default-clause-not_an_ask : goal.returns-in_default-clause-not_an_ask
returns-in_default-clause-not_an_ask c = λ _ file named e. c.in_default.ensures _ _ _ e

pub returns-in_default-file_id_in-clause-not_an_ask : goal.returns-in_default-file_id_in-clause-not_an_ask
returns-in_default-file_id_in-clause-not_an_ask c =
    λ _ file named e. c.in_default-file_id_in.ensures file.file named.id (file_data-id file _ _ _ (sym c.in-Some.ensures ∙ e))
