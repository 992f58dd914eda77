use Rattle.std.proofs.Common.{sym, subst}
use Rattle.mx_store.specs.Memory.{Seen}
use Rattle.mx_store.specs.Objects.{objects_of}
use Rattle.mx_store.specs.Journal.{IsAllowed}
use Rattle.mx_store.proofs.Journal.{IsJournal-push}
use Rattle.mx_store.proofs.Mirror.{mirrors-insert}
use Rattle.mx_store.proofs.memory.MemStore.set.Goals as goal

pub invariant_of-self-2 : goal.invariant_of-self-2
invariant_of-self-2 c =
    let was = c.self.invariant in
    rw (c.in_ok-push.ensures.items, c.reserve.ensures.items) (
      mirrors-insert c.self.inside.objects c.insert.new.self c.self.inside.changes.items c.args.path was.0 c.args.bytes c.args.change (c.requires.sets _) c.in_ok-insert.ensures.updates,
      IsJournal-push c.self.inside.changes.items c.args.change was.1
          (subst (λ (s : Seen). IsAllowed (objects_of s.changes) c.args.change) (sym c.self.view_is) c.requires.allowed),
    )
