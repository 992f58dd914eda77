use Rattle.std.proofs.Common.{◌≡◌, ◌++◌, ◌∷◌, [], List, sym, ◌∙◌, ap, rules}
use Rattle.mx_store.specs.declared.change.Change.{Change}
use Rattle.mx_store.specs.declared.change.Change.TheVariants.{Delete}
use Rattle.mx_recovery.proofs.PlanLemmas.{delete_gone}
use Rattle.mx_recovery.proofs.deletes.add_delete.Goals as goal

pub returns-in_ok-push-clause-deletes : goal.returns-in_ok-push-clause-deletes
returns-in_ok-push-clause-deletes c objects other standing =
    let grown : c.push.new.self ≡ c.args.changes.now ++ Delete c.args.path.now ∷ [] = search rules in
    let gone = delete_gone c.args.standing.now c.remove.new.self objects c.args.path.now standing (sym c.if-remove.ensures.test) c.remove.ensures.updates.0 in
    (grown ∙ ap (λ (changes : List Change). c.args.changes.now ++ changes) (sym gone.0), gone.1)
