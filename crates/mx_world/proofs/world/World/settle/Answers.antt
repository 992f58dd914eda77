use Rattle.std.proofs.Common.{ℕ, List, Ok, subst}
use Rattle.mx_store.specs.Calls.{Finds}
use Rattle.mx_world.proofs.StateLemmas.{settle_done, settle_undone}
use Rattle.mx_world.proofs.world.World.settle.Goals as goal

pub invariant_of-self-then-is_done : goal.invariant_of-self-then-is_done
invariant_of-self-then-is_done g c =
    settle_done g.N.Named.opening (g.S.Store.journal c.self.inside.store) (g.S.Store.journal c.get.new.self) c.self.inside.mirror _ c.self.inside.last c.self.inside.applied c.self.inside.doubt c.in-Some.change c.in-Some.is c.self.invariant c.get.ensures.journal c.in-Ok.found
    (subst (λ (p : List ℕ). Finds p (g.S.Store.journal c.self.inside.store) (Ok c.in-Ok.found)) c.path_of.ensures c.in-Ok.ensures.told)
    (c.is_done.ensures.0 c.if-is_done.true)
    (λ o allowed is. c.complete.ensures o (c.in_ok-begin.ensures.ok o allowed is))

pub invariant_of-self-else-is_done : goal.invariant_of-self-else-is_done
invariant_of-self-else-is_done g c =
    settle_undone g.N.Named.opening (g.S.Store.journal c.self.inside.store) (g.S.Store.journal c.get.new.self) c.self.inside.mirror _ c.self.inside.last c.self.inside.applied c.self.inside.doubt c.in-Some.change c.in-Some.is c.self.invariant c.get.ensures.journal c.in-Ok.found
    (subst (λ (p : List ℕ). Finds p (g.S.Store.journal c.self.inside.store) (Ok c.in-Ok.found)) c.path_of.ensures c.in-Ok.ensures.told)
    (λ is. absurd (cc (c.is_done.ensures.1 is, c.if-is_done.false)))
    (λ o allowed is. c.give_up.ensures o allowed (c.in_ok-begin.ensures.ok o allowed is))

pub invariant_of-self-else-is_done-2 : goal.invariant_of-self-else-is_done-2
invariant_of-self-else-is_done-2 g c =
    settle_undone g.N.Named.opening (g.S.Store.journal c.self.inside.store) (g.S.Store.journal c.get.new.self) c.self.inside.mirror _ c.self.inside.last c.self.inside.applied c.self.inside.doubt c.in-Some.change c.in-Some.is c.self.invariant c.get.ensures.journal c.in-Ok.found
    (subst (λ (p : List ℕ). Finds p (g.S.Store.journal c.self.inside.store) (Ok c.in-Ok.found)) c.path_of.ensures c.in-Ok.ensures.told)
    (λ is. absurd (cc (c.is_done.ensures.1 is, c.if-is_done.false)))
    (λ o allowed is. c.give_up.ensures o allowed (c.in_ok-begin.ensures.ok o allowed is))
