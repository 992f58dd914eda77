use Rattle.std.proofs.Common.{rules, ◌≡◌, List, ◌∷◌, sym, subst}
use Rattle.mx_store.specs.declared.change.Change.{Change}
use Rattle.std.proofs.lemmas.List.Elements.{All-rest}
use Rattle.mx_world.specs.Mirror.{IsPlain}
use Rattle.mx_world.specs.State.{standing}
use Rattle.mx_world.specs.Turns.{ChangesInTurn, MayMakeInTurn}
use Rattle.mx_world.proofs.TurnLemmas.{may_then, turns_more}
use Rattle.mx_world.proofs.turns.change_all.Goals as goal

pub loop-change-preserved : goal.loop-change-preserved
loop-change-preserved g c =
    let journal = g.S.Store.journal in
    let before = standing journal c.loop-change.world in
    let during = standing journal c.change.new.self in
    let first : c.loop-change.changes.items ≡ c.in-Some.change ∷ c.pop_front.new.self.items = c.in-Some.ensures.items in
    record {
      plain = All-rest IsPlain c.in-Some.change c.pop_front.new.self.items c.loop-change.changes.items first c.loop-change.invariant.plain;
      may = may_then before during c.in-Some.change c.pop_front.new.self.items c.in_ok-change.ensures.changes (subst (λ (cs : List Change). MayMakeInTurn before.journal before.doubt before.last cs) first c.loop-change.invariant.may);
      reads = search rules;
      faults = search rules;
      turns = λ after result turns. c.loop-change.invariant.turns after result
          (subst (λ (cs : List Change). ChangesInTurn cs before after result) (sym first) (turns_more before during after c.in-Some.change c.pop_front.new.self.items result c.in_ok-change.ensures.changes turns));
    }
