use Rattle.std.proofs.Common.{sym, ◌∙◌, subst}
use Rattle.mx_groups.specs.Groups.{AreCommits}
use Rattle.mx_recovery.proofs.PlanLemmas.{config_stands, last_is}
use Rattle.mx_recovery.proofs.plan.plan_of.Goals as goal

pub returns-clause-plan : goal.returns-clause-plan
returns-clause-plan c objects opens is = record {
  opens = opens;
  pendings = c.args.folder.pending;
  pending = is.pending;
  changes = c.in_ok-changes.ensures.deletes objects opens is;
  last = last_is objects c.args.folder is c.args.now c.in_ok-last.last c.in_ok-last.ensures;
  mirror = c.in_ok-mirror.ensures objects (config_stands objects c.args.folder is) (c.as_slice.ensures ∙ is.names) (subst (AreCommits objects) (sym c.as_slice-2.ensures) is.commits);
}
