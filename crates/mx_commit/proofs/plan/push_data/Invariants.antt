use Rattle.std.proofs.Common.{◌≡◌, ◌++◌, All}
use Rattle.mx_commit.specs.Written.{IsNamedFile}
use Rattle.mx_commit.specs.Changes.{data_changes}
use Rattle.mx_commit.proofs.plan.push_data.Given as goal

abbrev pub invariant-loop-file : goal.invariant-loop-file
invariant-loop-file l = record {
  changes : l.changes.items ≡ l.fn.changes.items ++ data_changes l.yielded l.at;
  names : All IsNamedFile l.yielded;
}
