use Rattle.std.proofs.Common.{subst, List, ℕ, Bool}
use Rattle.std.specs.Prelude.{IfOk}
use Rattle.mx_folder.specs.Folder.{IsObjectAt}
use Rattle.mx_open.specs.Deciding.{Decides}
use Rattle.mx_open.proofs.ObjectLemmas.{fine_if}
use Rattle.mx_open.proofs.objects.is_fine.Goals as goal

pub returns-in-Some : goal.returns-in-Some
returns-in-Some c = record {
  fine =
      fine_if c.args.held.now c.args.path.now c.in-Some.bytes.now c.in-Some.ensures c.is_object.result
      (subst (λ (bytes : List ℕ). IfOk c.is_object.result (λ (b : Bool). Decides b (IsObjectAt c.args.held.now c.args.path.now bytes))) c.as_slice.ensures (c.is_object.ensures c.args.held.now c.requires.context));
}
