use Rattle.std.proofs.Common.{rules, ◌≡◌, List, ℕ, map, subst}
use Rattle.std.specs.Map.Iter.{deref_pair}
use Rattle.std.proofs.lemmas.Map.Iter.{iter_end}
use Rattle.mx_groups.specs.Groups.{IsNewestIn}
use Rattle.mx_groups.proofs.GroupLemmas.{newest_next, newest_counts, newest_above}
use Rattle.mx_groups.proofs.groups.newest_of.Goals as goal

pub loop-at-preserved : goal.loop-at-preserved
loop-at-preserved c = newest_next deref_pair c.loop-at.yielded (c.in-Some.at, c.in-Some.groups) c.args.group.now c.loop-at.newest c.later-newest.result c.loop-at.invariant c.later-newest.ensures

pub returns-clause-counts : goal.returns-clause-counts
returns-clause-counts c =
    let all : map deref_pair c.loop-at.yielded ≡ c.args.commits.now.entries = search (rules, iter_end) in
    newest_counts c.args.commits.now c.iter-at-items.ensures.ordered c.args.group.now c.loop-at.newest (subst (λ (l : List (ℕ × List (List ℕ))). IsNewestIn l c.args.group.now c.loop-at.newest) all c.loop-at.invariant)

pub returns-clause-above : goal.returns-clause-above
returns-clause-above c =
    let all : map deref_pair c.loop-at.yielded ≡ c.args.commits.now.entries = search (rules, iter_end) in
    newest_above c.args.commits.now c.iter-at-items.ensures.ordered c.args.group.now c.loop-at.newest (subst (λ (l : List (ℕ × List (List ℕ))). IsNewestIn l c.args.group.now c.loop-at.newest) all c.loop-at.invariant)
