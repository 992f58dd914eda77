use Rattle.std.proofs.Common.{◌≡◌, List, ℕ, subst}
use Rattle.mx_open.specs.Deciding.{Decides}
use Rattle.mx_open.proofs.KindLemmas.{tells}
use Rattle.mx_open.proofs.kinds.is_named.Goals as goal

pub returns : goal.returns
returns c = subst (λ (path : List ℕ). Decides c.same.result (c.args.stat.now.path ≡ path)) c.in_ok-path.ensures (tells c.same.result (c.args.stat.now.path ≡ c.in_ok-path.path) c.same.ensures)
