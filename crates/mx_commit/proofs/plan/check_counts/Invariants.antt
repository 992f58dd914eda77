use Rattle.std.proofs.Common.{All, take}
use Rattle.mx_meta.specs.CommitText.{HasSmallCounts}
use Rattle.mx_commit.specs.declared.written.Written.{Written}
use Rattle.mx_commit.proofs.plan.check_counts.Given as goal

abbrev pub invariant-loop-entry : goal.invariant-loop-entry
invariant-loop-entry l = All (λ (w : Written). HasSmallCounts w.stat) (take l.entry-index l.written)
