use Rattle.std.proofs.Common.{sym, ◌∙◌}
use Rattle.mx_groups.proofs.NoteLemmas.{forgotten_commit, forgotten_none}
use Rattle.mx_groups.proofs.groups.Groups.forget.Goals as goal

pub returns-in-Some : goal.returns-in-Some
returns-in-Some c objects are = forgotten_commit objects c.args.path.now c.args.self.now c.remove.new.self are c.in-Some.at (sym c.commit_instant.ensures ∙ c.in-Some.is) c.remove.ensures

pub returns-in_default : goal.returns-in_default
returns-in_default c objects are = forgotten_none objects c.args.path.now c.args.self.now c.args.self.now are (sym c.commit_instant.ensures ∙ c.in_default.is)
