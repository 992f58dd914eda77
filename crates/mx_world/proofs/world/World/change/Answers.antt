use Rattle.std.proofs.Common.{refl, sym, subst, ap, ◌∙◌}
use Rattle.mx_world.specs.State.{MayMake, Changes, standing}
use Rattle.mx_world.proofs.StateLemmas.{sure_back, sure_made, sure_declined, sure_failed, changes_declined, counts_declined}
use Rattle.mx_world.proofs.world.World.change.Goals as goal

pub invariant_of-self-in-Made : goal.invariant_of-self-in-Made
invariant_of-self-in-Made g c =
    let may = (subst (λ w. MayMake (g.S.Store.journal w.store) w.doubt w.last c.args.change) (sym c.self.view_is) c.requires.may) in
    sure_made g.N.Named.opening _ (g.S.Store.journal c.make.new.store) c.self.inside.mirror _ c.self.inside.last c.last_after-last.result c.self.inside.applied c.args.change c.self.inside.doubt c.in_default.is c.self.invariant may
    c.last_after-last.ensures.after c.last_after-last.ensures.rises
    (λ o allowed is. c.complete.ensures o (c.in_ok-begin.ensures.ok o allowed is))
    c.in-Made.ensures.makes

pub invariant_of-self-in-Made-3 : goal.invariant_of-self-in-Made-3
invariant_of-self-in-Made-3 g c =
    let may = (subst (λ w. MayMake (g.S.Store.journal w.store) w.doubt w.last c.args.change) (sym c.self.view_is) c.requires.may) in
    sure_made g.N.Named.opening _ (g.S.Store.journal c.make.new.store) c.self.inside.mirror _ c.self.inside.last c.last_after-last.result c.self.inside.applied c.args.change c.self.inside.doubt c.in_default.is c.self.invariant may
    c.last_after-last.ensures.after c.last_after-last.ensures.rises
    (λ o allowed is. c.complete.ensures o (c.in_ok-begin.ensures.ok o allowed is))
    c.in-Made.ensures.makes

pub invariant_of-self-in-Failed : goal.invariant_of-self-in-Failed
invariant_of-self-in-Failed g c =
    let may = (subst (λ w. MayMake (g.S.Store.journal w.store) w.doubt w.last c.args.change) (sym c.self.view_is) c.requires.may) in
    sure_failed g.N.Named.opening _ (g.S.Store.journal c.make.new.store) c.self.inside.mirror _ c.self.inside.last c.last_after-last.result c.self.inside.applied c.args.change c.self.inside.doubt c.in_default.is c.requires.plain c.self.invariant may
    c.last_after-last.ensures.after c.last_after-last.ensures.rises
    (λ o allowed is. c.give_up.ensures o allowed (c.in_ok-begin.ensures.ok o allowed is))
    c.in-Failed.ensures.makes

pub invariant_of-self-in-NoMemory : goal.invariant_of-self-in-NoMemory
invariant_of-self-in-NoMemory g c =
    let may = (subst (λ w. MayMake (g.S.Store.journal w.store) w.doubt w.last c.args.change) (sym c.self.view_is) c.requires.may) in
    sure_back g.N.Named.opening _ (g.S.Store.journal c.make.new.store) c.self.inside.mirror _ c.self.inside.last c.last_after-last.result c.self.inside.applied c.args.change c.self.inside.doubt c.in_default.is c.self.invariant may
    c.last_after-last.ensures.after
    (λ o allowed is. c.give_up-in-NoMemory.ensures o allowed (c.in_ok-begin.ensures.ok o allowed is))
    c.in-NoMemory.ensures.makes

pub returns-in-Declined-clause-changes : goal.returns-in-Declined-clause-changes
returns-in-Declined-clause-changes g c =
    let may = (subst (λ w. MayMake (g.S.Store.journal w.store) w.doubt w.last c.args.change) (sym c.self.view_is) c.requires.may) in
    let made = sure_declined g.N.Named.opening _ (g.S.Store.journal c.make.new.store) c.self.inside.mirror c.self.inside.mirror c.self.inside.last c.last_after-last.result c.self.inside.applied c.args.change c.self.inside.doubt c.in_default.is c.self.invariant may
    c.last_after-last.ensures.after c.in-Declined.ensures.makes in
    subst (λ w. Changes c.args.change (standing g.S.Store.journal w) (record { journal = g.S.Store.journal c.make.new.store; last = c.last_after-last.result; applied = c.self.inside.applied; doubt = c.self.inside.doubt }) c.declined.result) c.self.view_is
    (changes_declined c.args.change c.declined.result (record { journal = g.S.Store.journal c.self.inside.store; last = c.self.inside.last; applied = c.self.inside.applied; doubt = c.self.inside.doubt })
    (record { journal = g.S.Store.journal c.make.new.store; last = c.last_after-last.result; applied = c.self.inside.applied; doubt = c.self.inside.doubt }) c.declined.ensures c.in_default.is made.0 (c.in-Declined.ensures.makes.1 ∙ made.0)
    c.last_after-last.ensures.after refl c.in_default.is)

pub returns-in-Declined-clause-faults : goal.returns-in-Declined-clause-faults
returns-in-Declined-clause-faults g c = counts_declined c.args.change c.declined.result _ _ c.declined.ensures (c.in-Declined.ensures.faults ∙ ap (λ w. g.S.Store.faults w.store) c.self.view_is)
