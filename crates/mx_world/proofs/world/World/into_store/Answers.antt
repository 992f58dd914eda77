use Rattle.mx_world.proofs.StateLemmas.{kept_begins, kept_valid}
use Rattle.mx_world.proofs.world.World.into_store.Goals as goal

pub returns-clause-begins : goal.returns-clause-begins
returns-clause-begins g c = kept_begins _ _ _ _ _ _ c.self.invariant

pub returns-clause-valid : goal.returns-clause-valid
returns-clause-valid g c = kept_valid _ _ _ _ _ _ c.self.invariant
