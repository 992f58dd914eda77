use Rattle.std.proofs.Common.{subst, List}
use Rattle.std.specs.Prelude.{Contains}
use Rattle.mx_base.specs.declared.part.Part.{Part}
use Rattle.mx_open.specs.Deciding.{Decides}
use Rattle.mx_open.proofs.KindLemmas.{tells}
use Rattle.mx_open.proofs.context.Context.is_available.Goals as goal

pub returns : goal.returns
returns c =
    subst (λ (parts : List Part). Decides c.holds.result (Contains parts c.args.part)) c.as_slice.ensures
    (tells c.holds.result (Contains c.as_slice.result.now c.args.part) c.holds.ensures)
