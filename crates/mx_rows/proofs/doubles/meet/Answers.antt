use Rattle.std.proofs.Common.{◌≡◌, Some, true, false, rules}
use Rattle.std.specs.BTreeSet.{contains}
use Rattle.std.specs.Cmp.Lexicographic.{slice_cmp}
use Rattle.std.specs.Ordering.{nat_cmp}
use Rattle.mx_rows.specs.Checks.{key_of}
use Rattle.mx_rows.proofs.DoubleLemmas.{met_first, met_again}
use Rattle.mx_rows.proofs.doubles.meet.Goals as goal

pub returns-then-branch : goal.returns-then-branch
returns-then-branch c = λ keys has.
    let key = c.in_ok-clone.field-0 in
    let is : key_of c.args.row.now ≡ Some key = search rules in
    let none : contains (slice_cmp nat_cmp) c.args.met.now key ≡ false = search rules in
    met_first c.args.met.now c.insert.new.self keys c.args.row.now key is has none c.in_ok-insert.ensures.updates

pub returns : goal.returns
returns c = λ keys has.
    let key = c.in_ok-clone.field-0 in
    let same : c.in_ok-clone-2.field-0 ≡ key = search rules in
    let is : key_of c.args.row.now ≡ Some key = search rules in
    let found : contains (slice_cmp nat_cmp) c.args.met.now key ≡ true = search rules in
    rw same (met_again c.args.met.now keys c.args.row.now key is has found)
