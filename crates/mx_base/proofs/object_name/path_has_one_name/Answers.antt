use Rattle.std.proofs.Common.{sym, ◌∙◌}
use Rattle.mx_base.proofs.ObjectLemmas.{object_path-injective}
use Rattle.mx_base.proofs.object_name.path_has_one_name.Goals as goal

pub returns : goal.returns
returns c path one other kept there same too = object_path-injective one other kept there (sym same ∙ too)
