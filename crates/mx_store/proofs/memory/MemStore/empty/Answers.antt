use Rattle.mx_store.proofs.Mirror.{mirrors-nothing}
use Rattle.mx_store.proofs.memory.MemStore.empty.Goals as goal

pub invariant_of-result : goal.invariant_of-result
invariant_of-result c = rw c.new.ensures.items (mirrors-nothing c.new-2.result c.new-2.ensures.empty, tt)
