use Rattle.std.proofs.Common.{rules, subst, List, ℕ, All}
use Rattle.mx_folder.specs.Reading.{IsLogOf}
use Rattle.mx_open.specs.Deciding.{Decides}
use Rattle.mx_open.proofs.KindLemmas.{delta_read}
use Rattle.mx_open.proofs.kinds.reads_as_delta.Goals as goal

pub returns-in-Ok : goal.returns-in-Ok
returns-in-Ok c =
    delta_read c.are_logs_of.result c.args.completed c.args.at c.args.bytes.now c.in-Ok.meta (search rules) c.in-Ok.ensures.ok
    (subst (λ (logs : List (List ℕ)). Decides c.are_logs_of.result (All (IsLogOf c.args.at) logs)) c.logs.ensures.value c.are_logs_of.ensures)
