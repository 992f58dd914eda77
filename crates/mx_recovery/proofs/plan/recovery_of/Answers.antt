use Rattle.std.proofs.Common.{◌≡◌, ◌||◌, ℕ, List, sym, ◌∙◌, ap, subst}
use Rattle.std.specs.Prelude.{All, IfOk}
use Rattle.std.specs.List.{flat_map}
use Rattle.mx_folder.specs.Pending.{deletes, left_by}
use Rattle.mx_world.specs.Mirror.{IsNoConfig}
use Rattle.mx_recovery.specs.Planning.{stands_among}
use Rattle.mx_recovery.proofs.PlanLemmas.{left_no_config, standing_is}
use Rattle.mx_recovery.proofs.plan.recovery_of.Goals as goal

pub returns-clause-deletes : goal.returns-clause-deletes
returns-clause-deletes c objects opens is =
    let same : c.as_slice-5.result.now ≡ flat_map left_by c.args.folder.now.pending = c.as_slice-5.ensures ∙ c.in_ok-paths.ensures ∙ ap (flat_map left_by) c.as_slice-4.ensures in
    subst (λ paths. IfOk c.deletes_of.result (λ changes. changes ≡ deletes objects paths)) same
    (c.deletes_of.ensures.deletes objects
    (standing_is objects c.args.folder.now is c.in_ok-standing.standing (λ q.
    c.in_ok-standing.ensures q
    ∙ ap (λ (names : List (List ℕ)). stands_among names q || stands_among c.as_slice-3.result.now q) c.as_slice-2.ensures
    ∙ ap (λ (others : List (List ℕ)). stands_among c.args.folder.now.names q || stands_among others q) c.as_slice-3.ensures))
    (subst (All IsNoConfig) (sym same) (left_no_config objects c.args.folder.now opens is)))
