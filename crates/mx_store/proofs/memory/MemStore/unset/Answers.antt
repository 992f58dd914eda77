use Rattle.std.proofs.Common.{sym, subst}
use Rattle.mx_store.specs.Memory.{Seen}
use Rattle.mx_store.specs.Objects.{objects_of}
use Rattle.mx_store.specs.Journal.{IsAllowed}
use Rattle.mx_store.specs.declared.change.Change.TheVariants.{Delete}
use Rattle.mx_store.proofs.Journal.{IsJournal-push}
use Rattle.mx_store.proofs.Mirror.{mirrors-remove}
use Rattle.mx_store.proofs.memory.MemStore.unset.Goals as goal

pub invariant_of-self-2 : goal.invariant_of-self-2
invariant_of-self-2 c =
    let was = c.self.invariant in
    rw (c.in_ok-push.ensures.items, c.reserve.ensures.items) (
      mirrors-remove c.self.inside.objects c.remove.new.self c.self.inside.changes.items c.args.path was.0 c.remove.ensures.updates,
      IsJournal-push c.self.inside.changes.items (Delete c.args.path) was.1
          (subst (λ (s : Seen). IsAllowed (objects_of s.changes) (Delete c.args.path)) (sym c.self.view_is) c.requires),
    )
