use Rattle.std.proofs.Common.{◌∙◌, sym}
use Rattle.std.proofs.lemmas.Slice.Eq.{bytes_eq-Decides}
use Rattle.mx_lists.proofs.same.TextSame.same.Goals as goal

pub returns : goal.returns
returns c =
    let decides = bytes_eq-Decides c.args.self.now c.args.other.now in
    (λ is. decides.0 (sym c.eq.ensures ∙ is), λ same. c.eq.ensures ∙ decides.1 same)
