use Rattle.std.proofs.Common.{◌≡◌, rules, sym, subst}
use Rattle.std.specs.Prelude.{codes}
use Rattle.serde_json.specs.Data.{member}
use Rattle.serde_json.specs.View.{view, members_view}
use Rattle.mx_ask.specs.Asks.{with_at, IsSession}
use Rattle.mx_ask.proofs.ObjectLemmas.{at_none, at_behind, partition_behind}
use Rattle.mx_ask.proofs.objects.files_parts.Goals as goal

pub returns-in_err-partition-in-at : goal.returns-in_err-partition-in-at
returns-in_err-partition-in-at c =
    at_none _ _ _ c.from_residual-in_err-partition-in-at.ensures
    (λ at partition session rest moment number is e.
    let both : member (codes "at") (view c.in_ok-name.second) (members_view c.next.new.self) ≡ with_at at (member (codes "partition") partition rest) = search rules in
    c.in_err-partition-in-at.ensures partition rest (at_behind at (view c.in_ok-name.second) partition (members_view c.next.new.self) rest both))

pub returns-in_err-session_member-in-at : goal.returns-in_err-session_member-in-at
returns-in_err-session_member-in-at c =
    at_none _ _ _ c.from_residual-in_err-session_member-in-at.ensures
    (λ at partition session rest moment number is e.
    let both : member (codes "at") (view c.in_ok-name.second) (members_view c.next.new.self) ≡ with_at at (member (codes "partition") partition rest) = search rules in
    let behind = at_behind at (view c.in_ok-name.second) partition (members_view c.next.new.self) rest both in
    let same : rest ≡ members_view c.next_member.new.members = search (rules, behind) in
    c.in_err-session_member-in-at.ensures session number (subst (IsSession session) same is))

pub returns-in_err-session_member-in-partition : goal.returns-in_err-session_member-in-partition
returns-in_err-session_member-in-partition c =
    at_none _ _ _ c.from_residual-in_err-session_member-in-partition.ensures
    (λ at partition session rest moment number is e.
    let both : member (codes "partition") (view c.in_ok-name.second) (members_view c.next.new.self) ≡ with_at at (member (codes "partition") partition rest) = search rules in
    let same = partition_behind at (view c.in_ok-name.second) partition (members_view c.next.new.self) rest both in
    c.in_err-session_member-in-partition.ensures session number (subst (IsSession session) (sym same) is))
