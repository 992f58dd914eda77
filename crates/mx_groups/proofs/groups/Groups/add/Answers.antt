use Rattle.std.proofs.Common.{◌∙◌, List, ℕ, ap, cond}
use Rattle.std.specs.Prelude.{nat_eq}
use Rattle.mx_groups.specs.Groups.{held_at}
use Rattle.mx_groups.proofs.GroupLemmas.{listed_more}
use Rattle.mx_groups.proofs.groups.Groups.add.Goals as goal

pub returns-clause-ok : goal.returns-clause-ok
returns-clause-ok c q =
    listed_more c.args.at c.in_ok-groups.groups c.args.self.now.commits c.insert.new.self c.in_ok-insert.ensures.updates q
    ∙ ap (λ (gs : List (List ℕ)). cond (nat_eq q c.args.at) gs (held_at c.args.self.now q)) c.in_ok-groups.ensures
