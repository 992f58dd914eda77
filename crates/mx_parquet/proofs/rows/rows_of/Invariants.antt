use Rattle.std.proofs.Common.{length}
use Rattle.mx_parquet.proofs.RowGroupsSay.{GroupsUpTo}
use Rattle.mx_parquet.proofs.rows.rows_of.Given as goal

abbrev pub invariant-loop-group : goal.invariant-loop-group
invariant-loop-group l = GroupsUpTo l.file l.columns l.groups l.rest l.rows.items

abbrev pub decreases-loop-group : goal.decreases-loop-group
decreases-loop-group l = length l.rest
