use Rattle.std.proofs.Common.{◌≡◌, take, All, None}
use Rattle.mx_commit.specs.Made as spec
use Rattle.mx_commit.specs.Made.{IsFileOf, first_too_large}
use Rattle.mx_commit.proofs.making.new_files.Given as goal

abbrev pub invariant-loop-number : goal.invariant-loop-number
invariant-loop-number l = record {
  files : l.made ≡ spec.new_files l.schema l.at (take l.number l.files);
  held : All (IsFileOf l.schema) l.made;
  small : first_too_large l.made ≡ None;
}
