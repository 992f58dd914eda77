use Rattle.std.proofs.Common.{refl, sym}
use Rattle.mx_groups.proofs.NoteLemmas.{groups_same}
use Rattle.mx_world.proofs.MirrorLemmas.{back_same, made_mirror, same_mirror, where_ok, where_err}
use Rattle.mx_world.proofs.mirror.Mirror.add.Goals as goal

pub returns-then-is_err-clause-err : goal.returns-then-is_err-clause-err
returns-then-is_err-clause-err c objects absent is =
    same_mirror objects c.args.path.now _ _ refl absent
    (where_err c.add_path.result c.if-is_err.ensures.value c.add_path.ensures.same_commits)
    (where_err c.add_path.result c.if-is_err.ensures.value c.add_path.ensures.same_names)
    is
    (groups_same _ objects c.forget.new.self (back_same objects c.args.path.now c.args.bytes.now absent) (c.forget.ensures _ (c.in_ok-note.ensures.ok objects is.groups)))

pub returns-clause-ok : goal.returns-clause-ok
returns-clause-ok c objects apart is =
    made_mirror objects c.args.path.now c.args.bytes.now _ _ refl
    (where_ok c.add_path.result (sym c.if-is_err.ensures.negation) c.add_path.ensures.commits)
    (where_ok c.add_path.result (sym c.if-is_err.ensures.negation) c.add_path.ensures.names)
    apart is (c.in_ok-note.ensures.ok objects is.groups)
