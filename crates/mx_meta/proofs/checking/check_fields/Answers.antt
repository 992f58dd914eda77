use Rattle.std.proofs.Common.{rules}
use Rattle.serde_json.specs.View.{view, members_view}
use Rattle.mx_meta.specs.Walk.{fields_shown}
use Rattle.mx_meta.proofs.FieldLemmas.{all_good, not_good, its_fault}
use Rattle.mx_meta.proofs.checking.check_fields.Goals as goal

pub returns-in-None-clause-ok : goal.returns-in-None-clause-ok
returns-in-None-clause-ok c =
    all_good (fields_shown c.args.fields.now) (view c.args.object.now) (members_view c.unwrap-members.result.now.entries) (search rules) c.in-None.ensures.first

pub returns-in_ok-from_str-in-Some-clause-bad : goal.returns-in_ok-from_str-in-Some-clause-bad
returns-in_ok-from_str-in-Some-clause-bad c =
    its_fault (fields_shown c.args.fields.now) (view c.args.object.now) (members_view c.unwrap-members.result.now.entries) c.in-Some.name.now c.in_ok-from_str-in-Some.field-0
    (search rules) c.requires.rising c.in-Some.ensures.sorted c.in-Some.ensures.first c.in_ok-from_str-in-Some.ensures

pub returns-in_ok-from_str-in-Some-clause-only : goal.returns-in_ok-from_str-in-Some-clause-only
returns-in_ok-from_str-in-Some-clause-only c =
    not_good (fields_shown c.args.fields.now) (view c.args.object.now) (members_view c.unwrap-members.result.now.entries) c.in-Some.name.now (search rules) c.in-Some.ensures.first
