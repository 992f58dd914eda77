use Rattle.std.proofs.Common.{subst, List, All, ◌≡◌, false}
use Rattle.mx_base.specs.declared.part.Part.{Part}
use Rattle.mx_open.specs.Deciding.{Decides, HasBaseIn}
use Rattle.mx_open.proofs.ContextLemmas.{config_read}
use Rattle.mx_open.proofs.context.Context.reads_as_config.Goals as goal

pub returns-in-Ok : goal.returns-in-Ok
returns-in-Ok c objects is =
    config_read objects c.args.self.now is c.args.bytes.now c.in-Ok.props c.are_based.result c.in-Ok.ensures.ok.0 c.in-Ok.ensures.ok.1 c.in-Ok.ensures.only
    (subst (λ (parts : List Part). Decides c.are_based.result (c.args.self.now.unread ≡ false → All (HasBaseIn c.args.self.now.bases) parts)) c.available.ensures.value c.are_based.ensures)
