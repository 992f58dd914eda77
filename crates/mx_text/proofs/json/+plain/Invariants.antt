use Rattle.std.proofs.Common.{◌≡◌, drop}
use Rattle.serde_json.specs.View.{items_view, members_view}
use Rattle.mx_text.specs.Plain.{plain_items, plain_members}
use Rattle.mx_text.proofs.json.+plain.Given as goal

-- what is left decides
abbrev pub invariant-are_plain-loop-item : goal.invariant-are_plain-loop-item
invariant-are_plain-loop-item l = plain_items l.left (items_view (drop l.item-index l.item-items)) ≡ plain_items l.left (items_view l.item-items)

abbrev pub invariant-have_plain-loop-member : goal.invariant-have_plain-loop-member
invariant-have_plain-loop-member l = plain_members l.left (members_view l.member-iterator) ≡ plain_members l.left (members_view l.initial.member-iterator)
