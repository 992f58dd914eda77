use Rattle.std.proofs.Common.{IfSome, sym, ap, subst}
use Rattle.mx_store.specs.Objects.{objects_of}
use Rattle.mx_world.specs.State.{standing}
use Rattle.mx_world.specs.Turns.{AreMade, StopsAt}
use Rattle.mx_recovery.specs.Planning.{IsPlanOf}
use Rattle.mx_recovery.proofs.TurnLemmas.{may_recover, made_sure, opened, opens_err, opens_ok, stands_valid, stops}
use Rattle.mx_recovery.proofs.opening.recover.Goals as goal

pub change_in_turn-requires-clause-may : goal.change_in_turn-requires-clause-may
change_in_turn-requires-clause-may g c =
    may_recover c.args.now (g.S.Store.journal c.over-world.result.store) c.args.plan c.over-world.result.doubt c.over-world.result.last c.into_vec.result.items c.over-world.ensures.doubt c.over-world.ensures.last c.into_vec.ensures
    (subst (λ s. IfSome (g.S.Store.journal s) (λ j. IsPlanOf c.args.now (objects_of j) c.args.plan)) (sym c.over-world.ensures.store) c.requires.planned)

pub returns-in-Ok-clause-recovers : goal.returns-in-Ok-clause-recovers
returns-in-Ok-clause-recovers g c =
    opens_ok g.S.Store.journal c.args.now (g.S.Store.journal c.args.store) c.change_in_turn.new.self
    (opened c.args.now (g.S.Store.journal c.args.store) c.args.plan (standing g.S.Store.journal c.over-world.result) (standing g.S.Store.journal c.change_in_turn.new.self) c.requires.planned c.requires.plain c.requires.from
    (ap g.S.Store.journal c.over-world.ensures.store) c.over-world.ensures.doubt c.over-world.ensures.applied c.over-world.ensures.last
    (subst (λ cs. AreMade cs (standing g.S.Store.journal c.over-world.result) (standing g.S.Store.journal c.change_in_turn.new.self)) c.into_vec.ensures c.in-Ok.ensures.turns))

pub returns-in-Ok-clause-valid : goal.returns-in-Ok-clause-valid
returns-in-Ok-clause-valid g c =
    stands_valid g.N.Named.opening (g.S.Store.journal c.change_in_turn.new.self.store) c.change_in_turn.new.self.mirror c.change_in_turn.new.self.last c.change_in_turn.new.self.applied c.change_in_turn.new.self.doubt
    (made_sure c.into_vec.result.items (standing g.S.Store.journal c.over-world.result) (standing g.S.Store.journal c.change_in_turn.new.self) c.over-world.ensures.doubt c.in-Ok.ensures.turns)
    c.last-last.ensures.stands

pub returns-in-Err-clause-recovers : goal.returns-in-Err-clause-recovers
returns-in-Err-clause-recovers g c =
    opens_err g.S.Store.journal c.args.now (g.S.Store.journal c.args.store) (record { store = c.into_store.result; why = c.why_of.result }) (standing g.S.Store.journal c.change_in_turn.new.self) c.in-Err.error
    (ap g.S.Store.journal c.into_store.ensures.store) c.why_of.ensures
    (stops c.args.now (g.S.Store.journal c.args.store) c.args.plan (standing g.S.Store.journal c.over-world.result) (standing g.S.Store.journal c.change_in_turn.new.self) c.in-Err.error c.requires.planned
    (ap g.S.Store.journal c.over-world.ensures.store) c.over-world.ensures.doubt
    (subst (λ cs. StopsAt cs (standing g.S.Store.journal c.over-world.result) (standing g.S.Store.journal c.change_in_turn.new.self) c.in-Err.error) c.into_vec.ensures c.in-Err.ensures.turns))
