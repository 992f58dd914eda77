use Rattle.std.proofs.Common.{◌≡◌, sym, ap, ◌∙◌}
use Rattle.serde_json.proofs.Views.{view-Object}
use Rattle.serde_json.specs.Data.{object}
use Rattle.serde_json.specs.View.{view, members_view}
use Rattle.mx_ask.proofs.objects.members_behind_ask.Goals as goal

pub returns : goal.returns
returns c =
    let shape : view c.args.value ≡ object (members_view c.in-Object.members.entries) = ap view c.in-Object.is ∙ view-Object c.in-Object.members in
    (view c.in_ok-next_member.field-0, shape ∙ ap object (ap members_view (sym c.into_iter-members.ensures.into_iter_gives.0) ∙ c.in_ok-next_member.ensures))
