use Rattle.std.proofs.Common.{rules, ◌≡◌, take, get_or, true, false}
use Rattle.std.specs.List.{list_any}
use Rattle.mx_commit.specs.Grouping.{is_same_group}
use Rattle.mx_commit.proofs.EntryLemmas.{apart_next, first_double}
use Rattle.mx_commit.proofs.entries.first_double.Goals as goal

pub returns-then-has_group : goal.returns-then-has_group
returns-then-has_group c =
    let file = c.index-files-place.result in
    let is : file ≡ get_or c.args.files.now c.loop-place.place file = search rules in
    let any : list_any (is_same_group file) (take c.loop-place.place c.args.files.now) ≡ true = search rules in
    first_double c.args.files.now c.loop-place.place file c.loop-place-test.true is c.loop-place.invariant any

pub loop-place-preserved : goal.loop-place-preserved
loop-place-preserved c =
    let file = c.index-files-place.result in
    let is : file ≡ get_or c.args.files.now c.loop-place.place file = search rules in
    let none : list_any (is_same_group file) (take c.loop-place.place c.args.files.now) ≡ false = search rules in
    apart_next c.args.files.now c.loop-place.place file c.loop-place-test.true is c.loop-place.invariant none
