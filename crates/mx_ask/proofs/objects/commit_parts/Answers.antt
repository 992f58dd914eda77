use Rattle.std.proofs.Common.{◌≡◌, rules, subst}
use Rattle.serde_json.specs.View.{members_view}
use Rattle.mx_ask.specs.Asks.{IsSession}
use Rattle.mx_ask.proofs.ObjectLemmas.{at_none}
use Rattle.mx_ask.proofs.objects.commit_parts.Goals as goal

pub returns-in_err-session : goal.returns-in_err-session
returns-in_err-session c =
    at_none _ _ _ c.from_residual-in_err-session.ensures
    (λ files session rest number is e.
    let same : rest ≡ members_view c.next_member.new.members = search rules in
    c.in_err-session.ensures session number (subst (IsSession session) same is))
