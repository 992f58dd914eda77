use Rattle.std.proofs.Common.{Option, List, ℕ, IfSome, ◌∙◌, ap, subst, rules}
use Rattle.std.specs.Prelude.{filter, not}
use Rattle.mx_store.specs.Objects.{objects_of}
use Rattle.mx_store.specs.declared.change.Change.{Change}
use Rattle.mx_folder.specs.Named.{is_hidden}
use Rattle.mx_open.specs.Deciding.{AreHeld}
use Rattle.mx_open.proofs.HeldLemmas.{opens_from}
use Rattle.mx_open.proofs.folder.read_folder.Goals as goal

pub returns-clause-opens : goal.returns-clause-opens
returns-clause-opens g c =
    opens_from (g.S.Store.journal c.args.store.now) c.in_ok-held.held c.in_ok-names.names c.in_ok-others.others c.in_ok-paths.paths c.open_held.result (search rules)
    (c.in_ok-names.ensures ∙ ap (λ (ps : List (List ℕ)). filter is_hidden ps) c.as_slice.ensures)
    (c.in_ok-others.ensures ∙ ap (λ (ps : List (List ℕ)). filter (λ path. not (is_hidden path)) ps) c.as_slice-3.ensures)
    (subst (λ (ps : List (List ℕ)). IfSome (g.S.Store.journal c.args.store.now) (λ j. AreHeld c.in_ok-held.held (objects_of j) ps ps)) c.as_slice-2.ensures
    (subst (λ (x : Option (List Change)). IfSome x (λ j. AreHeld c.in_ok-held.held (objects_of j) c.as_slice-2.result.now c.as_slice-2.result.now)) c.list.ensures.journal c.in_ok-held.ensures.told))
    c.open_held.ensures
