use Rattle.std.proofs.Common.{refl, subst, sym}
use Rattle.mx_base.specs.Names.{IsPath, is_path, is_segment}
use Rattle.mx_base.proofs.path.Path.of_config.Goals as goal

pub invariant_of-result : goal.invariant_of-result
unfolding is_path is_segment
invariant_of-result c = subst IsPath (sym c.in_ok-from_str.ensures.ok) refl
