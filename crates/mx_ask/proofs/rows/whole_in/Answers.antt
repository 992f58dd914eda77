use Rattle.std.proofs.Common.{sym}
use Rattle.serde_json.specs.View.{number_view}
use Rattle.mx_ask.proofs.RowLemmas.{none_whole}
use Rattle.mx_ask.proofs.rows.whole_in.Goals as goal

pub returns-in-None-clause-not_an_ask : goal.returns-in-None-clause-not_an_ask
returns-in-None-clause-not_an_ask c = λ refused v fits e. none_whole (number_view c.args.numeral.now) (sym c.in-None.ensures) v fits e
