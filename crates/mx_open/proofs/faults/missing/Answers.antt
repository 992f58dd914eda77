use Rattle.std.proofs.Common.{IsSome, rules}
use Rattle.mx_store.specs.Objects.{at_path}
use Rattle.mx_open.proofs.LeastLemmas.{alone_copy, none_not}
use Rattle.mx_open.proofs.faults.missing.Goals as goal

pub returns-in_ok-clone-in-None : goal.returns-in_ok-clone-in-None
returns-in_ok-clone-in-None c =
    alone_copy (λ q. IsSome (at_path c.args.held.now q)) c.args.path.now c.in_ok-clone-in-None.field-0 (search rules) (none_not (at_path c.args.held.now c.args.path.now) c.in-None.ensures)
