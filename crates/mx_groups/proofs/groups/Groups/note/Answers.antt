use Rattle.std.proofs.Common.{sym, ◌∙◌}
use Rattle.std.proofs.lemmas.Result.{on_ok_weaker}
use Rattle.mx_groups.proofs.NoteLemmas.{noted_commit, noted_none}
use Rattle.mx_groups.proofs.groups.Groups.note.Goals as goal

pub returns-in-Some-clause-ok : goal.returns-in-Some-clause-ok
returns-in-Some-clause-ok c =
    on_ok_weaker c.note_commit.result
    (λ held objects are. noted_commit objects c.args.path.now c.args.self.now c.note_commit.new.self are c.args.bytes.now c.in-Some.at (sym c.commit_instant.ensures ∙ c.in-Some.is) held)
    c.note_commit.ensures.ok

pub returns-in-None-clause-ok : goal.returns-in-None-clause-ok
returns-in-None-clause-ok c objects are = noted_none objects c.args.path.now c.args.self.now c.args.self.now are c.args.bytes.now (sym c.commit_instant.ensures ∙ c.in-None.is)
