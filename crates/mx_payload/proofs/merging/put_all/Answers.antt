use Rattle.std.proofs.Common.{ℕ, Bool, Option, Some, cond, ◌∙◌, ap, sym}
use Rattle.std.specs.Ordering.{is_eq}
use Rattle.std.specs.BTreeMap as tree
use Rattle.mx_lists.proofs.TreeLemmas.{R}
use Rattle.mx_payload.proofs.Unions.{after-push}
use Rattle.mx_payload.proofs.merging.put_all.Goals as goal

pub loop-word-preserved : goal.loop-word-preserved
loop-word-preserved c = λ name.
    let w = c.in-Some.word in
    c.in_ok-insert.ensures.updates.0 name
    ∙ ap (λ (o : Option (ℕ × Bool)). cond (is_eq (R w.name name)) (Some (w.size, w.deleted)) o) (c.loop-word.invariant name)
    ∙ sym (after-push c.loop-word.yielded w name (tree.get R c.args.states.now name))
