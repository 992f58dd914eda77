use Rattle.std.proofs.Common.{length}
use Rattle.mx_lists.proofs.same.+same_items.Given as goal

abbrev pub decreases-same_items : goal.decreases-same_items
decreases-same_items g l = length l.a.now
