use Rattle.std.proofs.Common.{refl}
use Rattle.mx_world.proofs.MirrorLemmas.{left_mirror}
use Rattle.mx_world.proofs.mirror.Mirror.remove.Goals as goal

pub returns : goal.returns
returns c objects apart is = left_mirror objects c.args.path.now _ _ refl c.remove_commit.ensures c.remove.ensures.updates.0 apart is (c.forget.ensures objects is.groups)
