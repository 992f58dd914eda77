use Rattle.std.proofs.Common.{◌∙◌, sym}
use Rattle.std.proofs.lemmas.Slice.Eq.{bytes_eq-Decides}
use Rattle.mx_base.proofs.file_id.FileIdSame.same.Goals as goal

pub returns : goal.returns
returns c =
    let decides = bytes_eq-Decides c.self.inside.text c.other.inside.text in
    (λ is. sym c.self.view_is ∙ decides.0 (sym c.eq.ensures ∙ is) ∙ c.other.view_is, λ same. c.eq.ensures ∙ decides.1 (c.self.view_is ∙ same ∙ sym c.other.view_is))
