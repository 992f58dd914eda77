use Rattle.std.proofs.Common.{◌≡◌}
use Rattle.serde_json.specs.View.{members_view}
use Rattle.mx_meta.specs.Walk.{fields_shown, first_bad}
use Rattle.mx_meta.proofs.checking.first_bad.Given as goal

-- what is left decides
abbrev pub invariant-loop-name : goal.invariant-loop-name
invariant-loop-name l = first_bad (fields_shown l.left) (members_view l.name-iterator) ≡ first_bad (fields_shown l.fields) (members_view l.initial.name-iterator)
