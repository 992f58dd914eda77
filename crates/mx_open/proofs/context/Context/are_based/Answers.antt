use Rattle.std.proofs.Common.{◌≡◌, All, List, ℕ, false, subst, sym}
use Rattle.mx_open.specs.Deciding.{HasBaseIn}
use Rattle.mx_open.proofs.KindLemmas.{decides_as}
use Rattle.mx_open.proofs.context.Context.are_based.Goals as goal

pub returns : goal.returns
returns c =
    let based = λ (bases : List (List ℕ)). All (HasBaseIn bases) c.args.parts.now in
    decides_as c.are_based.result (based c.as_slice.result.now) (c.args.self.now.unread ≡ false → based c.args.self.now.bases)
    (λ all _. subst based c.as_slice.ensures all) (λ met. subst based (sym c.as_slice.ensures) (met c.if-self.false)) c.are_based.ensures
