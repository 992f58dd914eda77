use Rattle.std.proofs.Common.{◌≡◌, List, ℕ, IsSome, Some, IfOk, subst, rules}
use Rattle.std.specs.Prelude.{Contains}
use Rattle.mx_meta.specs.ShardFiles.{delta_meta_of}
use Rattle.mx_store.specs.Objects.{at_path}
use Rattle.mx_open.specs.Deciding.{IsLeastOther, IsReadableLog}
use Rattle.mx_open.proofs.LeastLemmas.{commit_none, commit_some}
use Rattle.mx_open.proofs.faults.commit_missing.Goals as goal

pub returns-in-None : goal.returns-in-None
returns-in-None c = commit_none c.args.held.now c.args.context.now c.args.at c.in_ok-delta.delta (search rules) c.in-None.ensures

pub returns-in-Some : goal.returns-in-Some
returns-in-Some c =
    commit_some c.args.held.now c.args.context.now c.args.at c.in_ok-delta.delta c.in-Some.bytes.now (search rules) c.in-Some.ensures c.log_missing.result
    (subst (λ (bytes : List ℕ). IfOk c.log_missing.result (IsLeastOther (λ q. (logs : List (List ℕ)) → delta_meta_of bytes ≡ Some logs → Contains logs q → IsReadableLog c.args.context.now c.args.at q → IsSome (at_path c.args.held.now q))))
    c.as_slice.ensures c.log_missing.ensures)
