use Rattle.std.proofs.Common.{◌≡◌, ℕ, List, take}
use Rattle.std.specs.List.{list_any}
use Rattle.std.specs.BTreeSet.{contains}
use Rattle.std.specs.Ordering.{nat_cmp}
use Rattle.std.specs.Cmp.Lexicographic.{slice_cmp}
use Rattle.mx_world.specs.Mirror.{is_name_at}
use Rattle.mx_world.proofs.mirror.all_names.Given as goal

abbrev pub invariant-loop-path : goal.invariant-loop-path
invariant-loop-path l = (q : List ℕ) → contains (slice_cmp nat_cmp) l.names q ≡ list_any (λ path. is_name_at path q) (take l.path-index l.paths)
