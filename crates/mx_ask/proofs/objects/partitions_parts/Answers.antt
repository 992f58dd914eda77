use Rattle.std.proofs.Common.{◌≡◌, rules}
use Rattle.std.specs.Prelude.{codes}
use Rattle.serde_json.specs.Data.{member}
use Rattle.serde_json.specs.View.{view, members_view}
use Rattle.mx_ask.specs.Asks.{with_at}
use Rattle.mx_ask.proofs.ObjectLemmas.{at_none, session_behind}
use Rattle.mx_ask.proofs.objects.partitions_parts.Goals as goal

pub returns-in_err-session_member : goal.returns-in_err-session_member
returns-in_err-session_member c =
    at_none _ _ _ c.from_residual-in_err-session_member.ensures
    (λ at session rest moment number is e.
    let both : member (codes "at") (view c.in-Some.second) (members_view c.next.new.self) ≡ with_at at rest = search rules in
    c.in_err-session_member.ensures session number (session_behind at session (view c.in-Some.second) (members_view c.next.new.self) rest is both))
