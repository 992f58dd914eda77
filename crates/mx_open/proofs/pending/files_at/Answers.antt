use Rattle.std.proofs.Common.{List, ℕ, ◌≡◌, ◌∙◌, ap, subst}
use Rattle.std.specs.Prelude.{IfOk}
use Rattle.mx_base.specs.Objects.{object_path}
use Rattle.mx_open.proofs.LeavingLemmas.{files_found, files_none}
use Rattle.mx_open.proofs.pending.files_at.Goals as goal

pub returns-in-Some : goal.returns-in-Some
returns-in-Some c =
    subst (λ (files : List (List ℕ)). IfOk c.files_in.result (λ paths. paths ≡ files))
    (files_found c.args.held.now c.args.at c.in_ok-path.path c.in-Some.bytes.now c.as_slice.result.now (c.in_ok-path.ensures ∙ ap object_path c.commit_name.ensures) c.in-Some.ensures c.as_slice.ensures)
    c.files_in.ensures

pub returns : goal.returns
returns c = c.new.ensures ∙ files_none c.args.held.now c.args.at c.in_ok-path.path (c.in_ok-path.ensures ∙ ap object_path c.commit_name.ensures) c.in-None.ensures
