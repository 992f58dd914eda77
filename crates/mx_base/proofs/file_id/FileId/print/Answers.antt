use Rattle.std.proofs.Common.{◌≡◌, ℕ, List, true, subst}
use Rattle.std.specs.List.{list_all}
use Rattle.mx_base.specs.Names.{is_file_id_byte}
use Rattle.mx_base.proofs.NameLemmas.{IsFileId-bytes}
use Rattle.mx_base.proofs.file_id.FileId.print.Goals as goal

pub returns-clause-bytes : goal.returns-clause-bytes
returns-clause-bytes c = subst (λ (l : List ℕ). list_all is_file_id_byte l ≡ true) c.self.view_is (IsFileId-bytes c.self.inside.text c.self.invariant)
