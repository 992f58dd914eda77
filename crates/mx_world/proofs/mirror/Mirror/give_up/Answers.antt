use Rattle.std.proofs.Common.{subst}
use Rattle.mx_store.specs.declared.change.Change.{Change}
use Rattle.mx_store.specs.Journal.{IsAllowed}
use Rattle.mx_world.specs.Mirror.{IsReadyFor, IsPlain}
use Rattle.mx_world.proofs.StateLemmas.{taken_back}
use Rattle.mx_world.proofs.mirror.Mirror.give_up.Goals as goal

pub returns-in-Create : goal.returns-in-Create
returns-in-Create c objects allowed ready =
    taken_back objects c.in-Create.path c.in-Create.bytes _ (subst (λ (x : Change). IsAllowed objects x) c.in-Create.is allowed)
    (c.remove.ensures _ (subst (λ (x : Change). IsPlain x) c.in-Create.is c.requires.plain) (subst (λ (x : Change). IsReadyFor x objects c.args.self.now) c.in-Create.is ready))
